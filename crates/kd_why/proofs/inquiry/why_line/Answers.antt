use Rattle.std.proofs.Common.{◌≡◌, ◌∙◌, [], Some, None, ap, arith, refl, sym, true}
use Rattle.std.specs.Prelude.{option_map}
use Rattle.kd_server.specs.Trial.{trying}
use Rattle.kd_why.proofs.Inquired.{explained, unexplained}
use Rattle.kd_why.specs.Inquiring.{Inquiring}
use Rattle.kd_why.proofs.inquiry.why_line.Goals as goal

pub returns-in-Some-text : goal.returns-in-Some-text
returns-in-Some-text g c = record {
  explained = λ input tells.
      let left = c.replay-done.ensures.replayed.leaves input [] tells (ap Some c.new-sink.ensures.bytes) in
      explained (g.R.Source.has_failed c.replay-done.new.source ≡ true) (trying c.args.terms c.args.rows.now.rows) c.args.number input
      (record { trial = c.in_ok-over.field-0; left = c.in-Some.left; text = None }) c.replay-done.new.server c.in_ok-over.ensures (omega (arith, c.in-Some.ensures)) refl c.replay-done.result
      left.out c.in-Some-text.text.items left.replays (ap (λ (i : Inquiring). i.text) (sym c.inquiry.view_is) ∙ ap (option_map (λ t. t.items)) c.in-Some-text.is);
}

pub returns : goal.returns
returns g c = record {
  explained = λ input tells.
      let left = c.replay-done.ensures.replayed.leaves input [] tells (ap Some c.new-sink.ensures.bytes) in
      rw c.ending.ensures
      (unexplained (g.R.Source.has_failed c.replay-done.new.source ≡ true) (trying c.args.terms c.args.rows.now.rows) c.args.number input
      (record { trial = c.in_ok-over.field-0; left = c.in-Some.left; text = None }) c.replay-done.new.server c.in_ok-over.ensures (omega (arith, c.in-Some.ensures)) refl c.replay-done.result
      left.out left.replays (ap (λ (i : Inquiring). i.text) (sym c.inquiry.view_is) ∙ ap (option_map (λ t. t.items)) c.in-None.is));
}
