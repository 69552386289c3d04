use Rattle.std.proofs.Common.{◌++◌, ap, ◌∙◌}
use Rattle.std.specs.Prelude.{string_bytes}
use Rattle.kd_explain.proofs.Listing.{three_put}
use Rattle.kd_explain.proofs.finding_lines.put_fit.Goals as goal

pub returns : goal.returns
returns c =
    three_put _ _ _ _ _ _ _ c.in_ok-push_str.ensures.bytes (c.in_ok-push_str-2.ensures.bytes ∙ ap (λ t. string_bytes c.push_str.new.self ++ t) c.yes_or_no.ensures) c.in_ok-push_str-3.ensures.bytes
