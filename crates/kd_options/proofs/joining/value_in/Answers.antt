use Rattle.std.proofs.Common.{Some, sym, ap, ◌∙◌, nat_eq}
use Rattle.std.specs.Prelude.{option_map}
use Rattle.kd_options.specs.Joining.{bytes_of}
use Rattle.kd_options.proofs.Maps.{lookup_entries}
use Rattle.kd_options.proofs.joining.value_in.Goals as goal

pub returns-in-Some : goal.returns-in-Some
returns-in-Some c =
    ap Some c.as_slice.ensures ∙ ap (option_map bytes_of) c.in-Some.ensures.value ∙ sym (lookup_entries (nat_eq c.args.code) c.args.options.now.entries)

pub returns-in-None : goal.returns-in-None
returns-in-None c =
    ap (option_map bytes_of) c.in-None.ensures.value ∙ sym (lookup_entries (nat_eq c.args.code) c.args.options.now.entries)
