-- The keys of an object, as they are looked for in tables.
use Rattle.std.proofs.Common.{◌≡◌, ℕ, Bool, true, false, not, cond, ◌&&◌, List, [], ◌∷◌, ◌++◌, map, Option, Some, None, refl, sym, ap, ◌∙◌, Bor, string_bytes, String, ◌+◌, ◌<◌, length, get_or, drop}
use Rattle.std.specs.Option.{option_or}
use Rattle.std.proofs.lemmas.List.{at_drop_more}
use Rattle.std.specs.List.{find}
use Rattle.std.specs.Map.{lookup}
use Rattle.std.specs.declared.alloc.Global.{Global}
use Rattle.serde_json.specs.Data.{Data, Members}
use Rattle.serde_json.specs.Find.{as_object, get}
use Rattle.serde_json.specs.View.{members_view}
use Rattle.serde_json.specs.declared.value.Value.{Value}
use Rattle.kd_fields.specs.Steps.{must}
use Rattle.kd_keys.specs.Keys.{KeyUse, each_key, has_only_keys, key_use, keys_are_read, allows_value}
use Rattle.kd_keys.specs.Rows.{row_of, rows_of}
use Rattle.kd_keys.specs.declared.keys.KeyRule.{KeyRule}

-- nothing is found: neither this one nor any after it
none_here : {A : Type 0} (b : Bool) (x : A) (rest : Option A) → cond (not b) (Some x) rest ≡ None → (b ≡ true) × (rest ≡ None)
none_here true x rest e = (refl, e)
none_here false x rest e = absurd (cc)

both_true : (a b : Bool) → a ≡ true → b ≡ true → (a && b) ≡ true
both_true true b e f = f
both_true false b e f = e

-- if no key is refused, all pass
all_pass : (test : List ℕ → Bool) (entries : List (String Global × Value)) → None ≡ find (λ k. not (test (string_bytes k))) (map (λ m. m.0) entries) → each_key test (members_view entries) ≡ true
all_pass test [] e = refl
all_pass test (m ∷ entries) e =
    let h = none_here (test (string_bytes m.0)) m.0 (find (λ k. not (test (string_bytes k))) (map (λ m. m.0) entries)) (sym e) in
    both_true (test (string_bytes m.0)) (each_key test (members_view entries)) h.0 (all_pass test entries (sym h.1))

-- one key is refused: this one or one after it
refused_here : {A : Type 0} (b : Bool) (x found : A) (rest : Option A) (others : Bool) → Some found ≡ cond (not b) (Some x) rest → (Some found ≡ rest → others ≡ false) → (b && others) ≡ false
refused_here true x found rest others e later = later e
refused_here false x found rest others e later = refl

one_fails : (test : List ℕ → Bool) (entries : List (String Global × Value)) (found : String Global) → Some found ≡ find (λ k. not (test (string_bytes k))) (map (λ m. m.0) entries) → each_key test (members_view entries) ≡ false
one_fails test [] found e = absurd (cc)
one_fails test (m ∷ entries) found e =
    refused_here (test (string_bytes m.0)) m.0 found (find (λ k. not (test (string_bytes k))) (map (λ m. m.0) entries)) (each_key test (members_view entries)) e (one_fails test entries found)

read_is : (table : List (List ℕ × KeyUse)) (d : Data) (ms : Members) (b : Bool) → Some ms ≡ as_object d → each_key (λ key. allows_value (key_use table key) (get key d)) ms ≡ b → must (keys_are_read table d) ≡ must b
unfolding keys_are_read
read_is table d ms b e f = ap (λ (o : Option Members). must (has_only_keys (λ key. allows_value (key_use table key) (get key d)) o)) (sym e) ∙ ap must f

-- a key is refused
pub refused : (table : List (List ℕ × KeyUse)) (d : Data) (entries : List (String Global × Value)) (found : String Global) → Some (members_view entries) ≡ as_object d
    → Some found ≡ find (λ k. not (allows_value (key_use table (string_bytes k)) (get (string_bytes k) d))) (map (λ m. m.0) entries) → must (keys_are_read table d) ≡ None
refused table d entries found e f = read_is table d (members_view entries) false e (one_fails (λ key. allows_value (key_use table key) (get key d)) entries found f)

-- no key is refused
pub accepted : (table : List (List ℕ × KeyUse)) (d : Data) (entries : List (String Global × Value)) → Some (members_view entries) ≡ as_object d
    → None ≡ find (λ k. not (allows_value (key_use table (string_bytes k)) (get (string_bytes k) d))) (map (λ m. m.0) entries) → must (keys_are_read table d) ≡ Some tt
accepted table d entries e f = read_is table d (members_view entries) true e (all_pass (λ key. allows_value (key_use table key) (get key d)) entries f)

-- a key in two tables, one after another
here_or_later : {V : Type 0} (b : Bool) (v : V) (more rest : Option V) → more ≡ rest → cond b (Some v) more ≡ cond b (Some v) rest
here_or_later true v more rest e = refl
here_or_later false v more rest e = e

or_later : {V : Type 0} (b : Bool) (v : V) (first rest : Option V) → cond b (Some v) (option_or first rest) ≡ option_or (cond b (Some v) first) rest
or_later true v first rest = refl
or_later false v first rest = refl

pub lookup_append : {K V : Type 0} (test : K → Bool) (xs ys : List (K × V)) → lookup test (xs ++ ys) ≡ option_or (lookup test xs) (lookup test ys)
lookup_append test [] ys = refl
lookup_append test (x ∷ xs) ys =
    here_or_later (test x.0) x.1 (lookup test (xs ++ ys)) (option_or (lookup test xs) (lookup test ys)) (lookup_append test xs ys)
    ∙ or_later (test x.0) x.1 (lookup test xs) (lookup test ys)

-- what the tables from a place on say of a key: the one at the place, or those after it
pub table_at : (test : List ℕ → Bool) (tables : List (Bor (List (Bor (List ℕ) × KeyRule)))) (i : ℕ) (t : Bor (List (Bor (List ℕ) × KeyRule))) → i < length tables
    → lookup test (rows_of (drop i tables)) ≡ option_or (lookup test (map row_of (get_or tables i t).now)) (lookup test (rows_of (drop (i + 1) tables)))
table_at test tables i t below =
    at_drop_more (λ (ts : List (Bor (List (Bor (List ℕ) × KeyRule)))). lookup test (rows_of ts)) tables i t below
    ∙ lookup_append test (map row_of (get_or tables i t).now) (rows_of (drop (i + 1) tables))
