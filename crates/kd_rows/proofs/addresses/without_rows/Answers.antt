use Rattle.std.proofs.Common.{◌≡◌, append-nil, Global, Vec, ◌==◌, ◌+◌, ◌++◌, ◌∷◌, [], Bool, List, ap, arith, cond, get_or, is_some, not, subst, sym, take, true, false, ℕ, ◌∙◌}
use Rattle.std.specs.List.{filter}
use Rattle.std.proofs.lemmas.Bool.{eqb-true}
use Rattle.std.proofs.lemmas.List.{get_or_default, take_all}
use Rattle.std.proofs.lemmas.List.Elements.{filter_more}
use Rattle.std.proofs.lemmas.Map.Views.{any-filter_same}
use Rattle.kd_rows.specs.Open.{address_row, address_rows}
use Rattle.kd_rows.specs.Table.{Rise, row_at}
use Rattle.kd_rows.specs.Withheld.{is_withheld}
use Rattle.kd_rows.proofs.Listed.{rise_filter}
use Rattle.kd_rows.proofs.addresses.without_rows.Goals as goal
use Rattle.kd_rows.proofs.addresses.without_rows.Goals.{in-Some, in-None+in_ok-push-in-None}

pub loop-i-preserved : goal.loop-i-preserved
loop-i-preserved c =
    let p : ℕ → Bool = λ a. not (is_some (row_at c.args.rows.now.rows a)) in
    let xs = c.args.addresses.now.items in
    let i = c.loop-i.i in
    let more : filter p (take (i + 1) xs) ≡ filter p (take i xs) ++ cond (p (get_or xs i 0)) (get_or xs i 0 ∷ []) [] = filter_more p xs i 0 (omega arith) in
    let here : c.index.result.now ≡ get_or xs i 0 = c.index.ensures ∙ get_or_default xs i c.index.result.now 0 (omega arith) in
    elim c.match-find.branch [
      | in-Some w ↦
          let has : p (get_or xs i 0) ≡ false = ap p (sym here) ∙ ap (λ o. not (is_some o)) (w.in-Some.ensures.found (address_row 0)) in
          grind (arith, more, has, append-nil)
      | in-None+in_ok-push-in-None w ↦
          let has : p (get_or xs i 0) ≡ true = ap p (sym here) ∙ ap (λ o. not (is_some o)) w.in-None.ensures in
          let this : w.index-in-None.result.now ≡ get_or xs i 0 = w.index-in-None.ensures ∙ get_or_default xs i w.index-in-None.result.now 0 (omega arith) in
          ap (λ (v : Vec ℕ Global). v.items) w.bare-is ∙ w.in_ok-push-in-None.ensures.items ∙ ap (λ (ys : List ℕ). ys ++ w.index-in-None.result.now ∷ []) c.loop-i.invariant
          ∙ ap (λ (x : ℕ). filter p (take i xs) ++ x ∷ []) this ∙ sym (more ∙ ap (λ (b : Bool). filter p (take i xs) ++ cond b (get_or xs i 0 ∷ []) []) has)
    ]

pub returns-clause-rise : goal.returns-clause-rise
returns-clause-rise c =
    let p : ℕ → Bool = λ a. not (is_some (row_at c.args.rows.now.rows a)) in
    let xs = c.args.addresses.now.items in
    subst (λ (ys : List ℕ). Rise (address_rows ys)) (sym (c.loop-i.invariant ∙ ap (filter p) (take_all c.loop-i.i xs (omega arith)))) (rise_filter p 0 xs c.requires.rise)

pub returns-clause-bare : goal.returns-clause-bare
returns-clause-bare c = λ a.
    let p : ℕ → Bool = λ x. not (is_some (row_at c.args.rows.now.rows x)) in
    let xs = c.args.addresses.now.items in
    ap (λ (ys : List ℕ). is_withheld ys a) (c.loop-i.invariant ∙ ap (filter p) (take_all c.loop-i.i xs (omega arith)))
    ∙ any-filter_same (λ x. x == a) p (p a) (λ k e. ap p (eqb-true k a e)) xs
