use Rattle.std.proofs.Common.{◌≡◌, ◌++◌, ◌/◌, ◌%◌, ◌∙◌, OnOk, ap, codes, string_bytes, subst, sym, arith}
use Rattle.kd_program.specs.Banner.{grouped, three_digits}
use Rattle.kd_program.proofs.Grouped.{joined, more_groups}
use Rattle.kd_program.proofs.banner.+put_grouped.Goals as goal

pub returns : goal.returns
returns t c =
    let n = c.args.number in
    let line = string_bytes c.args.line.now in
    let more : string_bytes c.put_grouped.new.line ≡ line ++ grouped (n / 1000) = c.in_ok-put_grouped.ensures in
    let e : grouped n ≡ grouped (n / 1000) ++ codes "," ++ three_digits (n % 1000) =
    more_groups n (omega arith) (omega arith) in
    subst (λ text. OnOk c.put_group.result (string_bytes c.put_group.new.line ≡ text))
    (ap (λ text. text ++ (codes "," ++ three_digits (n % 1000))) more
    ∙ joined line (grouped (n / 1000)) (codes ",") (three_digits (n % 1000))
    ∙ ap (λ text. line ++ text) (sym e))
    c.put_group.ensures
