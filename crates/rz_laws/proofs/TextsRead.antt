-- The attributes and the reserved bytes of an admitted fork fit their places, and are bytes.
use Rattle.std.proofs.Common.{◌≡◌, ℕ, ◌+◌, ◌-◌, ◌<◌, ◌≤◌, ◌^◌, ◌==◌, if◌then◌else◌, Bool, true, false, List, [], length, drop, get_or, min, Option, Some, None, Ok, subst, arith}
use Rattle.rz_core.proofs.Placed.{number_fits}
use Rattle.rz_core.specs.Lists.{unless_fault}
use Rattle.rz_fork.proofs.Lending.{has_room}
use Rattle.rz_fork.specs.Admit.{admitted, inadmissible}
use Rattle.rz_fork.specs.Contents.{attributes_of, contents, reserved_of, resources, Fork}
use Rattle.rz_fork.specs.Layout.{header_of, the_outline}
use Rattle.rz_fork.specs.declared.fault.ForkFault.{ForkFault}
use Rattle.rz_fork.specs.declared.layout.Header.{Header}
use Rattle.rz_laws.proofs.Bytes.{back_bytes, each_byte, front_bytes}
use Rattle.rz_laws.specs.Kept.{AreBytes}

attributes_short : (bytes : List ℕ) → ((i : ℕ) → get_or bytes i 0 < 256) → attributes_of bytes (header_of bytes) < 2 ^ 16
unfolding attributes_of
attributes_short bytes small = omega (arith, number_fits 2 bytes ((header_of bytes).map_at + 22) small)

contents_short : (bytes : List ℕ) → ((i : ℕ) → get_or bytes i 0 < 256) → (contents bytes).attributes < 2 ^ 16
unfolding contents
contents_short bytes small =
    by (length bytes == 0) (record { list = resources bytes (the_outline bytes); attributes = attributes_of bytes (header_of bytes); reserved = reserved_of bytes (header_of bytes) })
    (attributes_short bytes small)
  where
    by : (empty : Bool) (fork : Fork) → fork.attributes < 2 ^ 16 → (if empty then record { list = []; attributes = 0; reserved = [] } else fork).attributes < 2 ^ 16
    by true fork fit = omega arith
    by false fork fit = fit

reserved_bytes : (bytes : List ℕ) (h : Header) → AreBytes bytes → AreBytes (reserved_of bytes h)
unfolding reserved_of
reserved_bytes bytes h small = front_bytes (min 256 (min h.data_at h.map_at) - 16) (drop 16 bytes) (back_bytes 16 bytes small)

contents_bytes : (bytes : List ℕ) → AreBytes bytes → AreBytes (contents bytes).reserved
unfolding contents
contents_bytes bytes small =
    by (length bytes == 0) (record { list = resources bytes (the_outline bytes); attributes = attributes_of bytes (header_of bytes); reserved = reserved_of bytes (header_of bytes) })
    (reserved_bytes bytes (header_of bytes) small)
  where
    by : (empty : Bool) (fork : Fork) → AreBytes fork.reserved → AreBytes (if empty then record { list = []; attributes = 0; reserved = [] } else fork).reserved
    by true fork are = tt
    by false fork are = are

-- a value where there is no fault
unfaulted : (broken : Option ForkFault) (value fork : Fork) → unless_fault broken value ≡ Ok fork → value ≡ fork
unfaulted None value fork is = cc
unfaulted (Some fault) value fork is = cc

pub record FitsPlace (fork : Fork) : Type 0 where
  pub attributes : fork.attributes < 2 ^ 16
  pub room : length fork.reserved ≤ 240
  pub bytes : AreBytes fork.reserved

pub fork_fits : (bytes : List ℕ) → AreBytes bytes → (fork : Fork) → admitted bytes ≡ Ok fork → FitsPlace fork
fork_fits bytes small fork is =
    subst FitsPlace (unfaulted (inadmissible bytes) (contents bytes) fork is)
    (record { attributes = contents_short bytes (each_byte bytes small); room = has_room bytes; bytes = contents_bytes bytes small })
