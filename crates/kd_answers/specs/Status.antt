-- The exit statuses of the program.
use Rattle.std.specs.Prelude.{ℕ, ◌==◌, ◌||◌, if◌then◌else◌}
use Rattle.kd_loops.specs.Faults.{loop_fault_number, replay_fault_number, serve_fault_number}
use Rattle.kd_loops.specs.declared.fault.LoopFault.{LoopFault}
use Rattle.kd_loops.specs.declared.fault.LoopFault.TheVariants as serving
use Rattle.kd_loops.specs.declared.fault.ReplayFault.{ReplayFault}
use Rattle.kd_loops.specs.declared.fault.ReplayFault.TheVariants.{Serve}

-- the exit status of the fault with this number
abbrev pub status_of : ℕ → ℕ
status_of number =
    if number == 91 || number == 94 || number == 95 || number == 100 then 1
    else if number == 98 then 2
    else if number == 80 || number == 81 || number == 82 || number == 83 || number == 92 || number == 93 || number == 101 then 4
    else 3

-- the exit status of a fault of a replay: that of the server's fault inside it, or its own
abbrev pub replay_status_of : ReplayFault → ℕ
replay_status_of (Serve fault) = status_of (serve_fault_number fault)
replay_status_of other = status_of (replay_fault_number other)

-- the same for a fault of serving
abbrev pub serve_status_of : LoopFault → ℕ
serve_status_of (serving.Serve fault) = status_of (serve_fault_number fault)
serve_status_of other = status_of (loop_fault_number other)
