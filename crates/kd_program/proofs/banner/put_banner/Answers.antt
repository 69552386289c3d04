use Rattle.std.proofs.Common.{◌≡◌, OnOk, string_bytes, subst}
use Rattle.kd_program.specs.Banner.{banner_text}
use Rattle.kd_program.proofs.Grouped.{six_parts}
use Rattle.kd_program.proofs.banner.put_banner.Goals as goal

pub returns : goal.returns
unfolding banner_text
returns c =
    subst (λ text. OnOk c.put_store.result (string_bytes c.put_store.new.line ≡ text))
    (six_parts _ _ _ _ _ _ _ _ _ _ _ _ c.in_ok-push_str.ensures.bytes c.in_ok-put_place.ensures
    c.in_ok-put_counts.ensures c.in_ok-push_str-2.ensures.bytes c.in_ok-put_latest.ensures)
    c.put_store.ensures
