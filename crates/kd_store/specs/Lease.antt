-- The table of leases in SQL: the texts of the statements, the schema, and the columns of a row.
use Rattle.std.specs.Prelude.{ℕ, pos, true, false, List, [], ◌∷◌, codes, Some, Result, Ok, Err}
use Rattle.sqlite.specs.declared.types.Value.TheVariants.{Null, Int, Blob as Bytes}
use Rattle.sqlite.specs.Order.{Row as Columns}
use Rattle.sqlite.specs.Collation.TheVariants.{Binary}
use Rattle.sqlite.specs.Kind.TheVariants.{Integer, Blob}
use Rattle.sqlite.specs.Table.{Table}
use Rattle.sqlite.specs.Schema.{Schema}
use Rattle.sqlite.specs.Term.{Term}
use Rattle.sqlite.specs.Compile.{table_defined_by}
use Rattle.kd_rows.specs.declared.row.Row.{Row}
use Rattle.kd_rows.specs.Row.{state_number}

-- makes the table if there is none
abbrev pub make_text : List ℕ
make_text =
    codes "CREATE TABLE IF NOT EXISTS lease (address INTEGER PRIMARY KEY CHECK (address BETWEEN 0 AND 4294967295), client BLOB NOT NULL, state INTEGER NOT NULL CHECK (state BETWEEN 1 AND 4), changed INTEGER NOT NULL CHECK (changed BETWEEN 0 AND 1099511627775), ends INTEGER NOT NULL CHECK (ends BETWEEN changed AND changed + 2147483647)) STRICT"

-- sets a row: replaces the row at its address, or adds it
abbrev pub put_text : List ℕ
put_text =
    codes "INSERT INTO lease (address, client, state, changed, ends) VALUES (?1, ?2, ?3, ?4, ?5) ON CONFLICT (address) DO UPDATE SET client = excluded.client, state = excluded.state, changed = excluded.changed, ends = excluded.ends"

-- all rows, in ascending order of address
abbrev pub rows_text : List ℕ
rows_text = codes "SELECT address, client, state, changed, ends FROM lease ORDER BY address"

-- the rules of a table that a text defines
abbrev pub checks_of : {E : Type 0} → Result Table E → List Term
checks_of (Ok table) = table.checks
checks_of (Err e) = []

-- the ranges that the text gives
abbrev pub lease_checks : List Term
lease_checks = checks_of (table_defined_by make_text)

-- the table of leases: the address is its key, and no column lacks a value
abbrev pub lease : Table
lease = record {
  name = codes "lease";
  tree = 0;
  columns =
      (record {
        name = codes "address";
        kind = Integer;
        is_strict = true;
        not_null = false;
        default = Null;
        collation = Binary;
      })
      ∷ (record {
        name = codes "client";
        kind = Blob;
        is_strict = true;
        not_null = true;
        default =
            Null;
        collation = Binary;
      })
      ∷ (record {
        name = codes "state";
        kind = Integer;
        is_strict = true;
        not_null = true;
        default =
            Null;
        collation = Binary;
      })
      ∷ (record {
        name = codes "changed";
        kind = Integer;
        is_strict = true;
        not_null = true;
        default = Null;
        collation = Binary;
      })
      ∷ (record {
        name = codes "ends";
        kind = Integer;
        is_strict = true;
        not_null = true;
        default =
            Null;
        collation = Binary;
      }) ∷ [];
  key = Some 0;
  primary = 0 ∷ [];
  uniques = [];
  orders = [];
  checks = lease_checks;
  references = [];
  computed = [];
  stamps = record { places = []; terms = []; formats = [] };
  is_counted = false;
}

-- the schema with only the table of leases
abbrev pub lease_schema : Schema
lease_schema = record { tables = lease ∷ []; indexes = []; views = [] }

-- the schema of an empty database
abbrev pub no_schema : Schema
no_schema = record { tables = []; indexes = []; views = [] }

-- the columns of a row: address, client, state, changed, ends
abbrev pub columns_of : Row → Columns
columns_of row =
    Int (pos row.address) ∷ Bytes row.client ∷ Int (pos (state_number row.state))
    ∷ Int (pos row.changed) ∷ Int (pos row.ends) ∷ []
