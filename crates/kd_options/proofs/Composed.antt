-- The areas of a datagram, joined one after another: what the three together make.
use Rattle.std.proofs.Common.{◌≡◌, ℕ, Bool, true, List, [], ◌++◌, refl, sym, ap, subst, ◌∙◌, inl, inr}
use Rattle.kd_wire.specs.Area.{Piece, IsArea}
use Rattle.kd_options.specs.Areas.{IsAreaFault, IsFirstAreaFault}
use Rattle.kd_options.specs.Joined.{HasOptions, IsAreaIf, options_of, value_of, options_field, file_field, sname_field, uses_file, uses_sname}
use Rattle.kd_options.specs.Joining.{JoinsPieces, JoinsArea}
use Rattle.kd_options.specs.declared.fault.AreaFault.{AreaFault}
use Rattle.kd_options.specs.declared.fault.AreaFault.TheVariants.{Cut, Memory}

module _ (bytes : List ℕ) (first : List Piece) where
  module _ (file sname : Bool) (file_is : file ≡ uses_file (value_of 52 first)) (sname_is : sname ≡ uses_sname (value_of 52 first)) where
    -- what is in use after the options field is what its own option 52 says
    file_used : (field : List Piece) → JoinsPieces field [] first → file ≡ uses_file (value_of 52 (options_of field))
    file_used field joins = file_is ∙ ap (λ o. uses_file (value_of 52 o)) (joins [] refl)

    sname_used : (field : List Piece) → JoinsPieces field [] first → sname ≡ uses_sname (value_of 52 (options_of field))
    sname_used field joins = sname_is ∙ ap (λ o. uses_sname (value_of 52 o)) (joins [] refl)

    -- three areas joined are the options of the datagram
    pub has_options : (second third : List Piece) → JoinsArea true (options_field bytes) [] first → JoinsArea file (file_field bytes) first second → JoinsArea sname (sname_field bytes) second third → HasOptions bytes third
    has_options second third a b c = record {
      pieces = a.pieces ++ b.pieces ++ c.pieces;
      in_use = record {
        field = a.pieces;
        file = b.pieces;
        sname = c.pieces;
        field_is = a.is;
        file_is = let P : Bool → Type 0 = λ used. IsAreaIf used (file_field bytes) b.pieces in subst P (file_used a.pieces a.joins) b.is;
        sname_is = let P : Bool → Type 0 = λ used. IsAreaIf used (sname_field bytes) c.pieces in subst P (sname_used a.pieces a.joins) c.is;
        in_order = refl;
      };
      joins = c.joins (a.pieces ++ b.pieces) (b.joins a.pieces (a.joins [] refl));
    }

    -- the pieces of a datagram that has options are those of the areas as they come
    pub file_area : (options : List Piece) (h : HasOptions bytes options) → JoinsPieces h.in_use.field [] first → IsAreaIf file (file_field bytes) h.in_use.file
    file_area options h joins = let P : Bool → Type 0 = λ used. IsAreaIf used (file_field bytes) h.in_use.file in subst P (sym (file_used h.in_use.field joins)) h.in_use.file_is

    pub sname_area : (options : List Piece) (h : HasOptions bytes options) → JoinsPieces h.in_use.field [] first → IsAreaIf sname (sname_field bytes) h.in_use.sname
    sname_area options h joins = let P : Bool → Type 0 = λ used. IsAreaIf used (sname_field bytes) h.in_use.sname in subst P (sym (sname_used h.in_use.field joins)) h.in_use.sname_is

    -- the fault of the file field is the first, after a whole options field
    pub file_fault : (fault : AreaFault) → JoinsArea true (options_field bytes) [] first → IsAreaFault file (file_field bytes) 108 fault → IsFirstAreaFault fault bytes
    file_fault (Cut at) a is = inr (inl (record { field = a.pieces; field_is = a.is; used = sym (file_used a.pieces a.joins) ∙ is.0; cut = is.1 }))
    file_fault Memory a is = tt

    -- the fault of the sname field is the first, after two whole areas
    pub sname_fault : (second : List Piece) (fault : AreaFault) → JoinsArea true (options_field bytes) [] first → JoinsArea file (file_field bytes) first second → IsAreaFault sname (sname_field bytes) 44 fault → IsFirstAreaFault fault bytes
    sname_fault second (Cut at) a b is =
        let P : Bool → Type 0 = λ used. IsAreaIf used (file_field bytes) b.pieces in
        inr (inr (record { field = a.pieces; file = b.pieces; field_is = a.is; file_is = subst P (file_used a.pieces a.joins) b.is; used = sym (sname_used a.pieces a.joins) ∙ is.0; cut = is.1 }))
    sname_fault second Memory a b is = tt

  -- the options that three areas make are the datagram's
  pub same_options : (second third options : List Piece) (h : HasOptions bytes options) → JoinsPieces h.in_use.field [] first → JoinsPieces h.in_use.file first second → JoinsPieces h.in_use.sname second third → third ≡ options
  same_options second third options h a b c =
      c (h.in_use.field ++ h.in_use.file) (b h.in_use.field (a [] refl)) ∙ ap options_of (sym h.in_use.in_order) ∙ sym h.joins

-- the first area is joined to no options
pub begun : (area field : List ℕ) (old first : List Piece) → area ≡ field → old ≡ [] → JoinsArea true area old first → JoinsArea true field [] first
begun area field old first same none a = record {
  pieces = a.pieces;
  is = let P : List ℕ → Type 0 = λ x. IsArea x a.pieces in subst P same a.is;
  joins = λ before e. a.joins before (none ∙ e);
}

pub begun_joins : (pieces old first : List Piece) → old ≡ [] → JoinsPieces pieces old first → JoinsPieces pieces [] first
begun_joins pieces old first none joins = λ before e. joins before (none ∙ e)

-- an area by another name
pub area_named : (area field : List ℕ) (pieces : List Piece) → area ≡ field → IsArea field pieces → IsArea area pieces
area_named area field pieces same is = let P : List ℕ → Type 0 = λ x. IsArea x pieces in subst P (sym same) is
