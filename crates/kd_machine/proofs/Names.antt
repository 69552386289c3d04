-- Names of a set of vectors, as byte strings.
use Rattle.std.proofs.Common.{◌≡◌, Bool, false, List, [], ◌∷◌, ◌++◌, map, refl, sym, ap, ◌∙◌}
use Rattle.std.specs.Prelude.{if◌then◌else◌, ◌||◌}
use Rattle.std.specs.List.{AllByRecursion, IsDistinct, list_any}
use Rattle.indexmap.specs.IndexSet.{insert_key}

-- a test passes for some image if and only if it passes for the image of some element
pub any_image : {A B : Type 0} (f : A → B) (test : B → Bool) (xs : List A) → list_any test (map f xs) ≡ list_any (λ x. test (f x)) xs
any_image f test [] = refl
any_image f test (x ∷ xs) = ap (λ b. test (f x) || b) (any_image f test xs)

map_end : {A B : Type 0} (f : A → B) (xs : List A) (x : A) → map f (xs ++ x ∷ []) ≡ map f xs ++ f x ∷ []
map_end f [] x = refl
map_end f (y ∷ xs) x = ap (λ ys. f y ∷ ys) (map_end f xs x)

-- the names after one more that was not there
pub inserted : {A B : Type 0} (f : A → B) (eq : A → A → Bool) (test : B → Bool) (keys more : List A) (k : A) (name : B) → ((x : A) → eq k x ≡ test (f x)) → f k ≡ name → more ≡ insert_key eq keys k → list_any test (map f keys) ≡ false
    → map f more ≡ (if list_any test (map f keys) then map f keys else map f keys ++ name ∷ [])
inserted {A = A} f eq test keys more k name agree is insert none =
    let absent : list_any (eq k) keys ≡ false = each keys ∙ sym (any_image f test keys) ∙ none in
    let added : more ≡ keys ++ k ∷ [] = insert ∙ ap (λ b. if b then keys else keys ++ k ∷ []) absent in
    ap (map f) added ∙ map_end f keys k ∙ ap (λ n. map f keys ++ n ∷ []) is ∙ sym (ap (λ b. if b then map f keys else map f keys ++ name ∷ []) none) where
      each : (xs : List A) → list_any (eq k) xs ≡ list_any (λ x. test (f x)) xs
      each [] = refl
      each (x ∷ xs) = ap (λ b. b || list_any (eq k) xs) (agree x) ∙ ap (λ b. test (f x) || b) (each xs)

apart_map : {A B : Type 0} (f : A → B) (eq : B → B → Bool) (x : A) (xs : List A) → AllByRecursion (λ y. eq (f x) (f y) ≡ false) xs → AllByRecursion (λ y. eq (f x) y ≡ false) (map f xs)
apart_map f eq x [] apart = tt
apart_map f eq x (y ∷ xs) apart = (apart.0, apart_map f eq x xs apart.1)

-- the images of elements are distinct if the elements are distinct by their images
pub distinct_images : {A B : Type 0} (f : A → B) (eq : B → B → Bool) (xs : List A) → IsDistinct (λ x y. eq (f x) (f y)) xs → IsDistinct eq (map f xs)
unfolding IsDistinct
distinct_images f eq [] apart = tt
distinct_images f eq (x ∷ xs) apart = (apart_map f eq x xs apart.0, distinct_images f eq xs apart.1)
