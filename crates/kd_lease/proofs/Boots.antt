-- What several parts of a configuration give to the boot fields, one after another.
use Rattle.std.proofs.Common.{◌≡◌, ℕ, ◌+◌, ◌<◌, true, false, not, ◌||◌, Bool, List, [], ◌∷◌, ◌++◌, Option, Some, None, refl, sym, ap, ◌∙◌, filter, length, map, slice_get, take, if◌then◌else◌}
use Rattle.std.specs.List.{list_any}
use Rattle.std.specs.Option.{option_or}
use Rattle.std.proofs.lemmas.Bool.{false≢true}
use Rattle.std.proofs.lemmas.List.{take_more}
use Rattle.std.proofs.lemmas.List.Elements.{filter-append}
use Rattle.std.proofs.lemmas.Option.{get_or_from_slice_get, slice_get_within}
use Rattle.kd_classes.specs.Boot.{boot_or, first_boot, gives_nothing, no_boot}
use Rattle.kd_classes.specs.declared.boot.Boot.{Boot}
use Rattle.kd_classes.specs.declared.definition.ClassDef.{ClassDef}
use Rattle.kd_config.specs.Booted.{class_gives_boot, gives_boot}
use Rattle.kd_config.specs.Configuration.{Configuration}
use Rattle.kd_config.specs.Networks.{part_holding}
use Rattle.kd_config.specs.Reservation.{has_boots}
use Rattle.kd_config.specs.declared.subnet.Subnet.{Subnet}
use Rattle.kd_config.proofs.Without.{nothing_is, part_without_boot}
use Rattle.kd_machine.specs.Parts.{is_held}
use Rattle.kd_options.specs.Message.{Seen}
use Rattle.kd_lease.specs.Booting.{boots_given, class_boots}
use Rattle.kd_lease.proofs.Ungiven.{no_reserved_boots}

pub or_assoc : {A : Type 0} (x y z : Option A) → option_or (option_or x y) z ≡ option_or x (option_or y z)
or_assoc None y z = refl
or_assoc (Some x) y z = refl

pub or_none : {A : Type 0} (x : Option A) → option_or x None ≡ x
or_none None = refl
or_none (Some x) = refl

-- of three the first that gives a value counts, however they are taken together
pub boot_assoc : (a b c : Boot) → boot_or (boot_or a b) c ≡ boot_or a (boot_or b c)
boot_assoc a b c = λ i. record {
  next_server = or_assoc a.next_server b.next_server c.next_server i;
  server_name = or_assoc a.server_name b.server_name c.server_name i;
  file_name = or_assoc a.file_name b.file_name c.file_name i;
}

-- what gives nothing changes nothing
pub boot_last : (a : Boot) → boot_or a no_boot ≡ a
boot_last a = λ i. record {
  next_server = or_none a.next_server i;
  server_name = or_none a.server_name i;
  file_name = or_none a.file_name i;
}

pub first_append : (xs ys : List Boot) → first_boot (xs ++ ys) ≡ boot_or (first_boot xs) (first_boot ys)
first_append [] ys = refl
first_append (boot ∷ xs) ys = ap (boot_or boot) (first_append xs ys) ∙ sym (boot_assoc boot (first_boot xs) (first_boot ys))

-- one more
pub one_more : (found boot : Boot) (boots : List Boot) → boot_or (boot_or found boot) (first_boot boots) ≡ boot_or found (first_boot (boot ∷ boots))
one_more found boot boots = boot_assoc found boot (first_boot boots)

-- two lists, and then one
pub three_boots : (xs ys : List Boot) (boot : Boot) → boot_or (boot_or (first_boot xs) (first_boot ys)) boot ≡ first_boot (xs ++ ys ++ boot ∷ [])
three_boots xs ys boot =
    ap (boot_or (boot_or (first_boot xs) (first_boot ys))) (sym (boot_last boot))
    ∙ ap (λ b. boot_or b (first_boot (boot ∷ []))) (sym (first_append xs ys))
    ∙ sym (first_append (xs ++ ys) (boot ∷ []))

map-append : (xs ys : List ClassDef) → map (λ class. class.boot) (xs ++ ys) ≡ map (λ class. class.boot) xs ++ map (λ class. class.boot) ys
map-append [] ys = refl
map-append (class ∷ xs) ys = ap (λ boots. class.boot ∷ boots) (map-append xs ys)

classes_append : (a b : List ClassDef) (names : List (List ℕ)) → class_boots (a ++ b) names ≡ class_boots a names ++ class_boots b names
classes_append a b names =
    let held : ClassDef → Bool = λ class. is_held class.name names in
    ap (map (λ class. class.boot)) (filter-append held a b) ∙ map-append (filter held a) (filter held b)

-- the classes up to one more
pub more_boots : (classes : List ClassDef) (names : List (List ℕ)) (i : ℕ) (class : ClassDef) → slice_get classes i ≡ Some class
    → first_boot (class_boots (take (i + 1) classes) names) ≡ boot_or (first_boot (class_boots (take i classes) names)) (first_boot (class_boots (class ∷ []) names))
more_boots classes names i class at =
    let within : i < length classes = slice_get_within classes i class at in
    let taken : take (i + 1) classes ≡ take i classes ++ class ∷ [] = take_more classes i class within ∙ ap (λ c. take i classes ++ c ∷ []) (get_or_from_slice_get classes i class class at) in
    ap (λ cs. first_boot (class_boots cs names)) taken
    ∙ ap first_boot (classes_append (take i classes) (class ∷ []) names)
    ∙ first_append (class_boots (take i classes) names) (class_boots (class ∷ []) names)

-- a class that is held, or gives nothing
pub one_boot : (class : ClassDef) (names : List (List ℕ)) → is_held class.name names ≡ true → first_boot (class_boots (class ∷ []) names) ≡ class.boot
one_boot class names held = rw held (boot_last class.boot)

pub no_class_boot : (class : ClassDef) (names : List (List ℕ)) → is_held class.name names ≡ false → first_boot (class_boots (class ∷ []) names) ≡ no_boot
no_class_boot class names held = rw held refl

pub empty_boot : (class : ClassDef) (names : List (List ℕ)) → class.boot ≡ no_boot → first_boot (class_boots (class ∷ []) names) ≡ no_boot
empty_boot class names none = by (is_held class.name names) where
  by : (b : Bool) → first_boot (map (λ class. class.boot) (if b then class ∷ [] else [])) ≡ no_boot
  by true = boot_last class.boot ∙ none
  by false = refl

-- classes that give nothing
no_boots : (classes : List ClassDef) (names : List (List ℕ)) → list_any class_gives_boot classes ≡ false → first_boot (class_boots classes names) ≡ no_boot
no_boots [] names none = refl
no_boots (class ∷ classes) names none = by (gives_nothing class.boot) refl (is_held class.name names) none (no_boots classes names) where
  by : (b : Bool) → gives_nothing class.boot ≡ b → (c : Bool) → (not b || list_any class_gives_boot classes) ≡ false
      → (list_any class_gives_boot classes ≡ false → first_boot (class_boots classes names) ≡ no_boot)
      → first_boot (map (λ class. class.boot) (if c then class ∷ filter (λ class. is_held class.name names) classes else filter (λ class. is_held class.name names) classes)) ≡ no_boot
  by true e true h rest = ap (λ b. boot_or b (first_boot (class_boots classes names))) (nothing_is class.boot e) ∙ rest h
  by true e false h rest = rest h
  by false e c h rest = absurd (false≢true (sym h))

first_no : (a b : Bool) → (a || b) ≡ false → a ≡ false
first_no false b h = refl
first_no true b h = h

second_no : (a b : Bool) → (a || b) ≡ false → b ≡ false
second_no false b h = h
second_no true b h = absurd (false≢true (sym h))

no_own : (b : Bool) → not b ≡ false → b ≡ true
no_own true h = refl
no_own false h = absurd (false≢true (sym h))

-- where no subnet and no class gives anything, nor the subnet itself or any of its reservations, nothing is given
pub nothing_given : (config : Configuration) (s : Subnet) (names : List (List ℕ)) (m : Seen) (a : ℕ)
    → ((list_any gives_boot config.subnets || list_any class_gives_boot config.classes) || (list_any has_boots s.reservations || gives_boot s)) ≡ false
    → first_boot (boots_given config s names m a) ≡ no_boot
unfolding boots_given
nothing_given config s names m a none =
    let subnets = list_any gives_boot config.subnets in
    let classes = list_any class_gives_boot config.classes in
    let reservations = list_any has_boots s.reservations in
    let whole : (subnets || classes) ≡ false = first_no (subnets || classes) (reservations || gives_boot s) none in
    let own : (reservations || gives_boot s) ≡ false = second_no (subnets || classes) (reservations || gives_boot s) none in
    let nothing : s.boot ≡ no_boot = nothing_is s.boot (no_own (gives_nothing s.boot) (second_no reservations (gives_boot s) own)) in
    let part = (part_holding config.subnets s a).boot in
    ap (λ boots. first_boot (boots ++ class_boots config.classes names ++ part ∷ [])) (no_reserved_boots config names m s a (first_no reservations (gives_boot s) own))
    ∙ first_append (class_boots config.classes names) (part ∷ [])
    ∙ ap (λ b. boot_or b (first_boot (part ∷ []))) (no_boots config.classes names (second_no subnets classes whole))
    ∙ boot_last part
    ∙ part_without_boot config.subnets s a (first_no subnets classes whole) nothing
