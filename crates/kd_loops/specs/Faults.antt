-- The numbers of the faults of handling an event, of a replay and of serving.
use Rattle.std.specs.Prelude.{ℕ}
use Rattle.kd_loops.specs.declared.fault.LoopFault.{LoopFault}
use Rattle.kd_loops.specs.declared.fault.LoopFault.TheVariants as looping
use Rattle.kd_loops.specs.declared.fault.ReplayFault.{ReplayFault}
use Rattle.kd_loops.specs.declared.fault.ReplayFault.TheVariants as replaying
use Rattle.kd_loops.specs.declared.fault.ServeFault.{ServeFault}
use Rattle.kd_loops.specs.declared.fault.ServeFault.TheVariants as serving

-- the number of each fault of handling an event
abbrev pub serve_fault_number : ServeFault → ℕ
serve_fault_number serving.MomentTooLarge = 90
serve_fault_number serving.Memory = 91
serve_fault_number (serving.Store fault) = 92
serve_fault_number serving.Failed = 93

-- the number of each fault of a replay
abbrev pub replay_fault_number : ReplayFault → ℕ
replay_fault_number replaying.Memory = 91
replay_fault_number replaying.Read = 94
replay_fault_number replaying.Write = 95
replay_fault_number (replaying.Serve fault) = 96
replay_fault_number (replaying.BadLine number) = 97

-- the number of each fault of serving
abbrev pub loop_fault_number : LoopFault → ℕ
loop_fault_number looping.Memory = 91
loop_fault_number looping.Read = 94
loop_fault_number looping.Write = 95
loop_fault_number (looping.Serve fault) = 96
loop_fault_number looping.Record = 100
loop_fault_number looping.Ahead = 101
