use Rattle.std.proofs.Common.{◌++◌, refl}
use Rattle.kd_explain.specs.FoundLines.{found_text}
use Rattle.kd_explain.specs.OutcomeLines.{set_line}
use Rattle.kd_explain.proofs.Listing.{three_put, two_put}
use Rattle.kd_explain.proofs.text.put_explanation.Goals as goal

pub returns : goal.returns
returns c =
    let scene = c.args.scene.now in
    let told = c.in_ok-put_checks.ensures in
    let ended = c.in_ok-put_end.ensures in
    let found = found_text scene.config.now scene.message.now scene.moment scene.explanation.now in
    let set = set_line scene.explanation.now.decision.row in (
      found ++ (told.0 ++ (ended.0 ++ set)),
      record { checked = told.0; tells = told.1; ends = ended.0; outcome = ended.1; is = refl },
      two_put _ found (told.0 ++ (ended.0 ++ set)) _ _ c.in_ok-put_found.ensures (three_put _ told.0 ended.0 set _ _ _ told.2 ended.2 c.in_ok-put_row_set.ensures),
    )
