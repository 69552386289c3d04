-- What is written for events, split into lines.
use Rattle.std.proofs.Common.{◌≡◌, ℕ, rules, Bool, true, false, List, [], ◌∷◌, ◌++◌, ap, ◌∙◌, append_assoc, inl, inr}
use Rattle.std.specs.List.{AllByRecursion, flat_map}
use Rattle.std.proofs.lemmas.List.Elements.{All-head, All-tail}
use Rattle.kd_event.specs.declared.event.Handled.{Handled}
use Rattle.kd_event.specs.declared.event.Response.{Response}
use Rattle.kd_event.specs.declared.event.Response.TheVariants as responses
use Rattle.kd_loops.specs.Lines.{lines_of}
use Rattle.kd_loops.specs.Serving.{Answered, behind_line, text_of}
use Rattle.kd_loops.specs.Text.{line_of}
use Rattle.kd_loops.proofs.Looking.{lines_line}
use Rattle.kd_log.specs.Laws.{IsLogLine, LogsAreRead, ServedLogsAreRead}
use Rattle.kd_log.specs.Logged.{IsWritable}
use Rattle.kd_log.proofs.Written.{body, body_plain, written}

first_line : (handled : Handled) (rest : List ℕ) → IsWritable handled → lines_of (line_of handled ++ rest) ≡ body handled ∷ lines_of rest
first_line handled rest is =
    ap (λ t. lines_of (t ++ rest)) (written handled) ∙ ap lines_of (append_assoc (body handled) (10 ∷ []) rest) ∙ lines_line (body handled) rest (body_plain handled is)

pub logs_are_read : LogsAreRead
logs_are_read [] are = tt
logs_are_read (handled ∷ list) are =
    let is = All-head IsWritable handled list are in
    let rest = logs_are_read list (All-tail IsWritable handled list are) in
    rw (first_line handled (flat_map line_of list) is) (record { written = written handled; writable = is }, rest)

-- after the line of a datagram there is nothing, or a remark
behind_is_read : (sent : Bool) (response : Response) (rest : List ℕ) → AllByRecursion IsLogLine (lines_of rest) → AllByRecursion IsLogLine (lines_of (behind_line sent response ++ rest))
behind_is_read true response rest are = are
behind_is_read false (responses.Quiet reason) rest are = are
behind_is_read false (responses.Reply destination bytes) rest are = (inr (search rules), are)

pub served_logs_are_read : ServedLogsAreRead
served_logs_are_read [] are = tt
served_logs_are_read (a ∷ list) are =
    let is = All-head (λ (a : Answered). IsWritable a.handled) a list are in
    let rest = served_logs_are_read list (All-tail (λ (a : Answered). IsWritable a.handled) a list are) in
    let behind = behind_line a.sent a.handled.response in
    let texts = flat_map text_of list in
    let whole : lines_of ((line_of a.handled ++ behind) ++ texts) ≡ body a.handled ∷ lines_of (behind ++ texts) =
    ap lines_of (append_assoc (line_of a.handled) behind texts) ∙ first_line a.handled (behind ++ texts) is in
    rw whole (inl (a.handled, record { written = written a.handled; writable = is }), behind_is_read a.sent a.handled.response texts rest)
