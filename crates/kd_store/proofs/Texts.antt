-- What the texts of the statements mean.
use Rattle.std.proofs.Common.{◌≡◌, ℕ, pos, negsuc, List, [], ◌∷◌, codes, false, Ok, None, Some, refl}
use Rattle.sqlite.specs.declared.types.Value.TheVariants.{Null, Int}
use Rattle.sqlite.specs.Collation.TheVariants.{Binary}
use Rattle.sqlite.specs.Term.{Term, lit, col, op2}
use Rattle.sqlite_sql.specs.declared.ops.BinaryOp.TheVariants.{Compare}
use Rattle.sqlite_sql.specs.declared.ops.CompareOp.TheVariants.{Eq}
use Rattle.sqlite_schema.specs.declared.program.Program.{Program}
use Rattle.sqlite_schema.specs.declared.command.Upsert.{Upsert}
use Rattle.sqlite.specs.Query.{Query, inner, end}
use Rattle.sqlite.specs.Source.TheVariants.{Values}
use Rattle.sqlite.specs.Command.TheVariants.{InsertOr, Select, CreateTable, Nothing}
use Rattle.sqlite_schema.specs.declared.command.Conflict.TheVariants.{Abort}
use Rattle.sqlite.specs.Compile.{table_defined_by}
use Rattle.sqlite_tied.specs.Compute.{everything}
use Rattle.sqlite.specs.Listing.{understood, reads_listing}
use Rattle.sqlite.proofs.Callers.{IsPlain, command_of, statement_of}
use Rattle.kd_store.specs.Lease.{make_text, put_text, rows_text, lease, lease_schema, no_schema}

abbrev pub terms : List Term
terms = col 0 0 ∷ lit Null ∷ col 0 1 ∷ col 0 2 ∷ col 0 3 ∷ col 0 4 ∷ []

-- the existing rows with the address: the rowid to remove, and the row that replaces it
abbrev pub update : Query
update = record {
  from = inner 0 end;
  filter = op2 (Compare Eq Binary) (col 1 0) (col 0 5) ∷ [];
  group = None;
  project = col 1 0 ∷ col 1 0 ∷ lit Null ∷ col 0 8 ∷ col 0 9 ∷ col 0 10 ∷ col 0 11 ∷ [];
  distinct = false;
  collations = [];
  order = [];
  limit = lit (Int (negsuc 0));
  offset = lit (Int (pos 0));
}

abbrev pub updates : Program
updates = record { lets = []; body = update }

abbrev pub clause : Upsert
clause = record { target = Some (0 ∷ []); update = Some updates }

-- all rows, by their rowid
abbrev pub select : Query
select = record {
  from = inner 0 end;
  filter = [];
  group = None;
  project = col 1 0 ∷ col 1 2 ∷ col 1 3 ∷ col 1 4 ∷ col 1 5 ∷ [];
  distinct = false;
  collations = [];
  order = (col 1 0, record { collation = Binary; descending = false }) ∷ [];
  limit = lit (Int (negsuc 0));
  offset = lit (Int (pos 0));
}

abbrev pub selects : Program
selects = record { lets = []; body = select }

abbrev pub names : List (List ℕ)
names = codes "address" ∷ codes "client" ∷ codes "state" ∷ codes "changed" ∷ codes "ends" ∷ []

pub make_is : (command_of (understood no_schema make_text) ≡ CreateTable) × (statement_of make_text (understood no_schema make_text) ≡ make_text) × (table_defined_by make_text ≡ Ok lease)
unfolding understood everything
make_is = (refl, refl, refl)

pub make_again : command_of (understood lease_schema make_text) ≡ Nothing
unfolding understood everything
make_again = refl

pub make_plain : IsPlain (understood no_schema make_text)
unfolding understood everything
make_plain = (refl, refl)

pub again_plain : IsPlain (understood lease_schema make_text)
unfolding understood everything
again_plain = (refl, refl)

pub put_is : command_of (understood lease_schema put_text) ≡ InsertOr 0 Abort (Values terms 6) (clause ∷ [])
unfolding understood everything
put_is = refl

pub put_plain : IsPlain (understood lease_schema put_text)
unfolding understood everything
put_plain = (refl, refl)

pub rows_is : command_of (understood lease_schema rows_text) ≡ Select selects names
unfolding understood everything
rows_is = refl

pub rows_plain : IsPlain (understood lease_schema rows_text)
unfolding understood everything
rows_plain = (refl, refl)

pub rows_unlisted : reads_listing lease_schema rows_text ≡ false
unfolding understood everything
rows_unlisted = refl
