-- Numbers in network byte order: bytes give a number that gives the bytes again, and vice versa.
use Rattle.std.proofs.Common.{◌≡◌, ℕ, ◌^◌, ◌<◌, List, length, get_or, sym, ap, arith}
use Rattle.std.specs.Int.{w32, cast_signed}
use Rattle.std.proofs.lemmas.Int.{of_z-to_z}
use Rattle.std.proofs.lemmas.Nat.{be_bytes_2, be_bytes_4}
use Rattle.byteorder.specs.Endian.{big_bytes, big_number}
use Rattle.kd_token.specs.File.{signed_bytes}

-- each of a list's numbers is a byte
abbrev pub AreBytes : List ℕ → Type 0
AreBytes bytes = (i : ℕ) → get_or bytes i 0 < 256

pub two_bytes : (bytes : List ℕ) (n : ℕ) → length bytes ≡ 2 → AreBytes bytes → n ≡ big_number 2 bytes → bytes ≡ big_bytes 2 n
two_bytes bytes n len fits e = sym (be_bytes_2 bytes n len fits (omega (arith, e)))

pub four_bytes : (bytes : List ℕ) (n : ℕ) → length bytes ≡ 4 → AreBytes bytes → n ≡ big_number 4 bytes → bytes ≡ big_bytes 4 n
four_bytes bytes n len fits e = sym (be_bytes_4 bytes n len fits (omega (arith, e)))

-- a number of four bytes taken as signed has the same bytes
pub signed_back : (n : ℕ) → n < 2 ^ 32 → signed_bytes (cast_signed w32 n) ≡ big_bytes 4 n
signed_back n fits = ap (big_bytes 4) (of_z-to_z w32 n fits)
