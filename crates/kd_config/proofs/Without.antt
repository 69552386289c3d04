-- Where a test fails for each subnet, and for one that need not be among them, it fails for the one that
-- has an address: that one gives nothing to boot fields, or has no times of its own for leases. And a
-- test of the elements of a list up to one more.
use Rattle.std.proofs.Common.{◌≡◌, ℕ, ◌+◌, Bool, true, false, ◌&&◌, ◌||◌, ◌==◌, not, List, [], ◌∷◌, ◌++◌, Option, Some, None, is_none, refl, ap, sym, ◌∙◌, slice_get, take, if◌then◌else◌}
use Rattle.std.specs.List.{find, list_any}
use Rattle.std.specs.Prelude.{is_some}
use Rattle.std.proofs.lemmas.Bool.{false≢true}
use Rattle.std.proofs.lemmas.List.{take_more}
use Rattle.std.proofs.lemmas.List.Folds.{list_any-append}
use Rattle.std.proofs.lemmas.Option.{get_or_from_slice_get, slice_get_within}
use Rattle.kd_classes.specs.Boot.{gives_nothing, no_boot}
use Rattle.kd_classes.specs.declared.boot.Boot.{Boot}
use Rattle.kd_config.specs.Booted.{gives_boot}
use Rattle.kd_config.specs.Networks.{is_part, part_holding, value_or}
use Rattle.kd_config.specs.Term.{has_term}
use Rattle.kd_config.specs.declared.subnet.Subnet.{Subnet}
use Rattle.kd_config.specs.declared.term.Term.{Term}

found_without : (such test : Subnet → Bool) (subnets : List Subnet) (s : Subnet) → list_any such subnets ≡ false → such s ≡ false → such (value_or (find test subnets) s) ≡ false
found_without such test [] s none own = own
found_without such test (t ∷ subnets) s none own = by (such t) refl (test t) none (found_without such test subnets s) where
  by : (b : Bool) → such t ≡ b → (c : Bool) → (b || list_any such subnets) ≡ false
      → (list_any such subnets ≡ false → such s ≡ false → such (value_or (find test subnets) s) ≡ false)
      → such (value_or (if c then Some t else find test subnets) s) ≡ false
  by false e true h rest = e
  by false e false h rest = rest h own
  by true e c h rest = absurd (false≢true (sym h))

part_without : (such : Subnet → Bool) (subnets : List Subnet) (s : Subnet) (a : ℕ) → list_any such subnets ≡ false → such s ≡ false → such (part_holding subnets s a) ≡ false
part_without such subnets s a none own = by (s.network == 0) where
  by : (b : Bool) → such (if b then s else value_or (find (is_part s.network a) subnets) s) ≡ false
  by true = own
  by false = found_without such (is_part s.network a) subnets s none own

pub nothing_is : (boot : Boot) → gives_nothing boot ≡ true → boot ≡ no_boot
nothing_is boot none = by boot.next_server boot.server_name boot.file_name none where
  by : (a : Option ℕ) (b c : Option (List ℕ)) → (is_none a && (is_none b && is_none c)) ≡ true → record { next_server = a; server_name = b; file_name = c } ≡ no_boot
  by None None None h = refl
  by None None (Some c) h = absurd (false≢true h)
  by None (Some b) c h = absurd (false≢true h)
  by (Some a) b c h = absurd (false≢true h)

pub part_without_boot : (subnets : List Subnet) (s : Subnet) (a : ℕ) → list_any gives_boot subnets ≡ false → s.boot ≡ no_boot → (part_holding subnets s a).boot ≡ no_boot
part_without_boot subnets s a none own =
    nothing_is (part_holding subnets s a).boot (given (gives_nothing (part_holding subnets s a).boot) (part_without gives_boot subnets s a none (ap (λ (b : Boot). not (gives_nothing b)) own))) where
      given : (b : Bool) → not b ≡ false → b ≡ true
      given true h = refl
      given false h = absurd (false≢true (sym h))

none_is : (term : Option Term) → is_some term ≡ false → term ≡ None
none_is None h = refl
none_is (Some t) h = absurd (false≢true (sym h))

pub part_without_term : (subnets : List Subnet) (s : Subnet) (a : ℕ) → list_any has_term subnets ≡ false → is_some s.term ≡ false → (part_holding subnets s a).term ≡ None
part_without_term subnets s a none own = none_is (part_holding subnets s a).term (part_without has_term subnets s a none own)

or_nothing : (b : Bool) → (b || false) ≡ b
or_nothing true = refl
or_nothing false = refl

-- one more
pub any_of_more : {A : Type 0} (such : A → Bool) (xs : List A) (i : ℕ) (x : A) → slice_get xs i ≡ Some x → list_any such (take (i + 1) xs) ≡ (list_any such (take i xs) || such x)
any_of_more such xs i x at =
    ap (list_any such) (take_more xs i x (slice_get_within xs i x at) ∙ ap (λ y. take i xs ++ y ∷ []) (get_or_from_slice_get xs i x x at))
    ∙ list_any-append such (take i xs) (x ∷ [])
    ∙ ap (λ b. list_any such (take i xs) || b) (or_nothing (such x))
