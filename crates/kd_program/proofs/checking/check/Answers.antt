use Rattle.std.proofs.Common.{inr, refl}
use Rattle.kd_program.proofs.checking.check.Goals as goal

pub returns : goal.returns
returns g c = record {
  config = c.read_configuration-config.result;
  asked = c.read_configuration-config.new.host;
  given = c.read_configuration-config.ensures;
  store = c.find_store-store.result;
  store_found = c.find_store-store.ensures;
  socket = c.try_socket-socket.result;
  socket_found = c.try_socket-socket.ensures;
  shown = inr (refl, c.refuse_memory.ensures.0, c.refuse_memory.ensures.1);
}
