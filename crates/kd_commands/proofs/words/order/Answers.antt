use Rattle.std.proofs.Common.{map}
use Rattle.std.specs.String.{string_bytes}
use Rattle.clap.specs.Words.{app_of, kind_of}
use Rattle.kd_commands.proofs.Lines.{clap_from_line, help_line, line_from_clap, version_line}
use Rattle.kd_commands.proofs.FromMatches.{are_texts, from_error, from_matches}
use Rattle.kd_commands.proofs.words.order.Goals as goal

pub returns-in_err-command-clause-line : goal.returns-in_err-command-clause-line
returns-in_err-command-clause-line c asked =
    let ws = map string_bytes c.args.words.now in
    (line_from_clap ws asked (are_texts c.args.words.now), clap_from_line ws asked)

pub returns-in-Ok : goal.returns-in-Ok
returns-in-Ok c =
    let ws = map string_bytes c.args.words.now in
    let texts = are_texts c.args.words.now in
    let given = from_matches (app_of c.in_ok-command.command) ws c.in-Ok.matches c.order_from.result texts
    c.in_ok-command.ensures c.in-Ok.ensures.matches c.in-Ok.ensures.kinds c.order_from.ensures in
    record {
      order = given.order;
      fault = given.fault;
      only = given.only;
      line = λ asked. (line_from_clap ws asked texts, clap_from_line ws asked);
      help = λ h. given.help (help_line ws h);
      version = λ h. given.version (version_line ws h);
    }

pub returns-in-Err : goal.returns-in-Err
returns-in-Err c =
    let ws = map string_bytes c.args.words.now in
    let texts = are_texts c.args.words.now in
    let given = from_error (app_of c.in_ok-command.command) ws (kind_of c.in-Err.error) c.answer_to.result
    c.in_ok-command.ensures c.in-Err.ensures.kinds c.answer_to.ensures in
    record {
      order = given.order;
      fault = given.fault;
      only = given.only;
      line = λ asked. (line_from_clap ws asked texts, clap_from_line ws asked);
      help = λ h. given.help (help_line ws h);
      version = λ h. given.version (version_line ws h);
    }
