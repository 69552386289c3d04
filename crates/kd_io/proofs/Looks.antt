-- What was read, part after part.
use Rattle.std.proofs.Common.{◌≡◌, ℕ, ◌+◌, List, [], ◌∷◌, ◌++◌, Option, None, Some, suc, refl, sym, ap, subst, ◌∙◌, arith}
use Rattle.std.proofs.lemmas.List.{append_assoc, append-nil}
use Rattle.kd_io.specs.Looking.{AreChanged, AreReadAs, IsReadAs, IsSettledCopy, IsTry, IsUnsettled, one_try}
use Rattle.kd_io.specs.declared.look.Copied.{Copied}
use Rattle.kd_io.specs.declared.look.FilePart.{FilePart}
use Rattle.kd_io.specs.declared.look.FilePart.TheVariants.{Header, Database, Log}

-- parts, and then others
pub both : (xs ys : List FilePart) (a b c : Option (List FilePart)) → AreReadAs xs a b → AreReadAs ys b c → AreReadAs (xs ++ ys) a c
both xs ys a b c f g parts is = g (parts ++ xs) (f parts is) ∙ ap Some (append_assoc parts xs ys)

-- the four parts of a try
pub whole_try : (before db log after : List ℕ) (a b c d e : Option (List FilePart)) → IsReadAs (Header before) a b → IsReadAs (Database db) b c → IsReadAs (Log log) c d → IsReadAs (Header after) d e
    → AreReadAs (one_try before db log after) a e
whole_try before db log after a b c d e f g h i =
    let last = both (Log log ∷ []) (Header after ∷ []) c d e h i in
    let later = both (Database db ∷ []) (Log log ∷ Header after ∷ []) b c e g last in
    both (Header before ∷ []) (Database db ∷ Log log ∷ Header after ∷ []) a b e f later

-- no try yet
pub none_yet : (a : Option (List FilePart)) → IsUnsettled 0 a a
none_yet a = record { parts = []; changed = refl; read = λ parts is. is ∙ ap Some (sym (append-nil parts)) }

suc-is : (n : ℕ) → suc n ≡ n + 1
suc-is n = omega arith

-- one more try at which the header changed
pub once_more : (n : ℕ) (a b c : Option (List FilePart)) → IsUnsettled n a b → IsTry None b c → IsUnsettled (n + 1) a c
once_more n a b c before try =
    let it = one_try try.0 try.1 try.2 try.3 in
    record {
      parts = before.parts ++ it;
      changed = subst (λ m. AreChanged m (before.parts ++ it)) (suc-is n) (before.parts, try.0, try.1, try.2, try.3, before.changed, try.4, refl);
      read = both before.parts it a b c before.read try.5;
    }

-- and one at which it stayed the same
pub settled : (n : ℕ) (copy : Copied) (a b c : Option (List FilePart)) → IsUnsettled n a b → IsTry (Some copy) b c → IsSettledCopy copy.log copy.db a c
settled n copy a b c before try =
    record {
      tries = n;
      parts = before.parts;
      changed = before.changed;
      header = try.0;
      read = both before.parts (one_try try.0 copy.db copy.log try.0) a b c before.read try.1;
    }
