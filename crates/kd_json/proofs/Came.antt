-- What an optional result came from.
use Rattle.std.proofs.Common.{◌≡◌, ℕ, ◌≤◌, Bool, true, false, nat_le, List, [], ◌∷◌, length, Option, Some, None, refl, subst, sym, ap, ◌∙◌, arith, suc}
use Rattle.std.specs.List.{AllByRecursion}
use Rattle.std.specs.Prelude.{option_map}
use borrow.Author.Tests.{leb-true}
use Rattle.serde_json.specs.Data.{Data, Items, no_items, item}
use Rattle.serde_json.specs.Events.{items_len}
use Rattle.serde_json.specs.Find.{as_array}
use Rattle.kd_config.proofs.Tests.{some_is}
use Rattle.kd_fields.specs.Lists.{all_of, items_or_none, list_of}
use Rattle.kd_wire.specs.Steps.{◌>>=◌}
use Rattle.kd_fields.specs.Steps.{must, only_if}

-- what a result came from
pub record Came {A B : Type 0} (o : Option A) (f : A → Option B) (b : B) : Type 0 where
  pub first : A
  pub is : o ≡ Some first
  pub gives : f first ≡ Some b

none_is : {X : Type 0} {P : Type 0} (x : X) → None ≡ Some x → P
none_is x e = absurd (cc)

pub came_from : {A B : Type 0} (o : Option A) (f : A → Option B) (b : B) → (o >>= f) ≡ Some b → Came o f b
came_from None f b e = none_is b e
came_from (Some a) f b e = record { first = a; is = refl; gives = e }

-- a test was passed
pub passed : {B : Type 0} (test : Bool) (f : Unit {0} → Option B) (b : B) → (must test >>= f) ≡ Some b → (test ≡ true) × (f tt ≡ Some b)
passed true f b e = (refl, e)
passed false f b e = none_is b e

-- a value passed a test
pub passed_only : {A : Type 0} (test : Bool) (x y : A) → only_if test x ≡ Some y → (test ≡ true) × (x ≡ y)
passed_only true x y e = (refl, some_is x y e)
passed_only false x y e = none_is y e

-- a value under a function
pub seen_from : {A B : Type 0} (f : A → B) (o : Option A) (y : B) → option_map f o ≡ Some y → (x : A) × (o ≡ Some x) × (f x ≡ y)
seen_from f None y e = none_is y e
seen_from f (Some x) y e = (x, refl, some_is (f x) y e)

-- there are as many values as items
all_length : {A : Type 0} (means : Data → Option A) (items : Items) (xs : List A) → all_of means items ≡ Some xs → length xs ≡ items_len items
all_length means no_items xs e = ap length (sym (some_is [] xs e))
all_length means (item d ds) xs e =
    let first = came_from (means d) _ xs e in
    let rest = came_from (all_of means ds) _ xs first.gives in
    ap length (sym (some_is (first.first ∷ rest.first) xs rest.gives)) ∙ ap suc (all_length means ds rest.first rest.is)

-- what holds for what each value describes holds for what all describe
all_each : {A : Type 0} (P : A → Type 0) (means : Data → Option A) → ((d : Data) (x : A) → means d ≡ Some x → P x) → (items : Items) (xs : List A) → all_of means items ≡ Some xs → AllByRecursion P xs
all_each P means each no_items xs e = subst (AllByRecursion P) (some_is [] xs e) tt
all_each P means each (item d ds) xs e =
    let first = came_from (means d) _ xs e in
    let rest = came_from (all_of means ds) _ xs first.gives in
    subst (AllByRecursion P) (some_is (first.first ∷ rest.first) xs rest.gives) (each d first.first first.is, all_each P means each ds rest.first rest.is)

-- a list has at most `most` items
pub few_items : (most : ℕ) (value : Option Data) (items : Items) → items_or_none most value ≡ Some items → items_len items ≤ most
few_items most None items e = subst (λ xs. items_len xs ≤ most) (some_is no_items items e) (omega arith)
few_items most (Some d) items e =
    let list = came_from (as_array d) _ items e in
    let few = passed_only (nat_le (items_len list.first) most) list.first items list.gives in
    subst (λ xs. items_len xs ≤ most) few.1 (leb-true (items_len list.first) most few.0)

pub few_meant : {A : Type 0} (most : ℕ) (means : Data → Option A) (value : Option Data) (xs : List A) → list_of most means value ≡ Some xs → length xs ≤ most
unfolding list_of
few_meant most means value xs e =
    let items = came_from (items_or_none most value) _ xs e in
    subst (λ n. n ≤ most) (sym (all_length means items.first xs items.gives)) (few_items most value items.first items.is)

pub each_meant : {A : Type 0} (P : A → Type 0) (means : Data → Option A) → ((d : Data) (x : A) → means d ≡ Some x → P x) → (most : ℕ) (value : Option Data) (xs : List A) → list_of most means value ≡ Some xs → AllByRecursion P xs
unfolding list_of
each_meant P means each most value xs e =
    let items = came_from (items_or_none most value) _ xs e in all_each P means each items.first xs items.gives
