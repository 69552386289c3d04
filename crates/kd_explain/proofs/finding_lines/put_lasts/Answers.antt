use Rattle.std.specs.Prelude.{string_bytes}
use Rattle.kd_lease.specs.Rules.{asking, kept_subnet, serving_subnet}
use Rattle.kd_explain.specs.CheckLines.{fit_words, kept_words, lasts_line, place_words}
use Rattle.kd_explain.proofs.Listing.{three_put}
use Rattle.kd_explain.proofs.finding_lines.put_lasts.Goals as goal

pub returns : goal.returns
unfolding lasts_line
returns c =
    let q = asking c.args.matter.now.question.now in
    three_put (string_bytes c.args.out.now) (fit_words c.args.lasts) (place_words q (serving_subnet q) c.args.matter.now.address) (kept_words (kept_subnet q)) _ _ _
    c.in_ok-put_fit.ensures c.in_ok-put_places.ensures c.in_ok-put_kept.ensures
