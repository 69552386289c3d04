-- The table of subcommands in its three parts.
use Rattle.std.proofs.Common.{◌≡◌, fold}
use Rattle.clap.specs.Words.{App}
use Rattle.kd_commands.specs.Order.{command_line, program_line, table_around_servers, table_on_leases, table_on_texts, with_entry}

-- the command line has the three parts one after another
pub in_three : (program texts leases whole : App) → program ≡ program_line → texts ≡ fold with_entry program table_on_texts
    → leases ≡ fold with_entry texts table_on_leases → whole ≡ fold with_entry leases table_around_servers → whole ≡ command_line
in_three program texts leases whole p t l w = cc
