use Rattle.std.proofs.lemmas.Result.{err_from_is_err_and}
use Rattle.std.proofs.Common.{◌≡◌, ◌++◌, ◌∷◌, [], ◌+◌, ◌∙◌, ap, length-append}
use Rattle.kd_token.specs.File.{IsName, name_bytes}
use Rattle.kd_token.specs.Reading.{name_at}
use Rattle.kd_token.proofs.Many.{all_more, ends, goes_on, is_done, spelled_more}
use Rattle.kd_token.proofs.reading.names_of.Goals as goal

pub names-preserved : goal.names-preserved
names-preserved c =
    let item = c.in_ok-item.item in
    let e : c.push.new.self.items ≡ c.names.names.items ++ item ∷ [] = c.in_ok-push.ensures.items in
    rw e (record {
      told = goes_on (λ behind. name_at) c.names.names.items c.args.count c.names.counter c.names.reader item c.name.new.reader _ c.names-test.true c.in_ok-item.ensures.read c.names.invariant.told;
      spelled = spelled_more name_bytes c.names.names.items item c.args.reader.now.left c.names.reader.left c.name.new.reader.left c.names.invariant.spelled c.in_ok-item.ensures.found.0;
      each = all_more IsName c.names.names.items item c.names.invariant.each c.in_ok-item.ensures.found.1;
      number = length-append c.names.names.items (item ∷ []) ∙ ap (λ n. n + 1) c.names.invariant.number;
    })

pub returns-in_err-item-clause-read : goal.returns-in_err-item-clause-read
returns-in_err-item-clause-read c =
    let p = err_from_is_err_and c.from_residual.result c.from_residual.ensures.1 in
    rw (p.1, p.2) (ends (λ behind. name_at) c.in_err-item.field-0.0 c.names.names.items c.args.count c.names.counter c.names.reader _ c.names-test.true c.in_err-item.ensures.read c.names.invariant.told)

pub returns-clause-read : goal.returns-clause-read
returns-clause-read c = is_done (λ behind. name_at) c.names.names.items c.args.count c.names.counter c.names.reader _ c.names-test.false c.names.invariant.told
