-- An order that needs only its arguments is carried out where what it prints is said.
use Rattle.std.proofs.Common.{◌≡◌, ℕ}
use Rattle.kd_commands.specs.declared.orders.Order.{Order}
use Rattle.kd_commands.specs.declared.orders.Order.TheVariants as orders
use Rattle.kd_keeps.specs.declared.keeps.Keeps.{Ghosts}
use Rattle.kd_answers.specs.Printed.{IsPrinted}
use Rattle.kd_program.specs.Running.{CarriesOut, Says}
use Rattle.kd_program.specs.Streams.{At}
use Rattle.kd_program.specs.declared.host.Host.{Ghosts as Hosts}
use Rattle.kd_loops.specs.declared.ends.Sink.{Ghosts as Sinks}
use Rattle.kd_loops.specs.declared.link.Link.{Ghosts as Links}

module _ {H N U L R : Type 0} (h : Hosts H N U L R) (named : Ghosts N) (unnamed : Ghosts U) (l : Links L) (r : Sinks R) where
  pub answered : (order : Order) (before after : At H) (status : ℕ) → IsPrinted order → after.host ≡ before.host
      → Says order status before.streams after.streams → CarriesOut h named unnamed l r order before after status
  answered (orders.Help text) before after status printed same says = (same, says)
  answered (orders.Show hex names) before after status printed same says = (same, says)
  answered (orders.Expr text) before after status printed same says = (same, says)
  answered (orders.Compile text) before after status printed same says = (same, says)
  answered (orders.Verify hex) before after status printed same says = (same, says)
  answered (orders.Eval program datagram) before after status printed same says = (same, says)
  answered (orders.EvalText text datagram) before after status printed same says = (same, says)
  answered orders.Version before after status printed same says = absurd printed
  answered (orders.Over files work) before after status printed same says = absurd printed
  answered (orders.Import store) before after status printed same says = absurd printed
  answered (orders.Events mac address) before after status printed same says = absurd printed
  answered (orders.Test files) before after status printed same says = absurd printed
  answered (orders.Check files place) before after status printed same says = absurd printed
