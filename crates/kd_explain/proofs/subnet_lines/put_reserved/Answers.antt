use Rattle.std.proofs.Common.{append_assoc}
use Rattle.kd_explain.specs.FoundLines.{reserved_line}
use Rattle.kd_explain.proofs.subnet_lines.put_reserved.Goals as goal

pub returns : goal.returns
unfolding reserved_line
returns c =
    rw
    (c.in_ok-push_str-4.ensures.bytes, c.in_ok-push_str-3.ensures.bytes, c.identity_key.ensures, c.in_ok-push_str-2.ensures.bytes, c.in_ok-put_address_or_dash.ensures, c.in_ok-push_str.ensures.bytes)
    (simp append_assoc)
