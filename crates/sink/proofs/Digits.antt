-- A number is what its bytes say.
use Rattle.std.proofs.Common.{◌≡◌, ℕ, ◌^◌, ◌<◌}
use Rattle.std.proofs.lemmas.Nat.{from_be_bytes-to_be_bytes_4, from_be_bytes-to_be_bytes_8}
use Rattle.event.specs.BigEndian.{num32, num64, bytes32, bytes64}

pub num_bytes32 : (n : ℕ) → n < 2 ^ 32 → num32 (bytes32 n) 0 ≡ n
num_bytes32 n h = from_be_bytes-to_be_bytes_4 n h

pub num_bytes64 : (n : ℕ) → n < 2 ^ 64 → num64 (bytes64 n) 0 ≡ n
num_bytes64 n h = from_be_bytes-to_be_bytes_8 n h
