-- The lengths of the parts of a MacBinary.
use Rattle.std.proofs.Common.{◌≡◌, ℕ, ◌+◌, ◌≤◌, List, length, drop, arith, length-append}
use Rattle.std.proofs.lemmas.List.{length-replicate, length-take, length-drop}
use Rattle.rz_core.specs.Numbers.{length-be_2, length-be_4}
use Rattle.rz_bridge.specs.Places.{piece, filled, with_filler}
use Rattle.rz_bridge.specs.MacBinary.{macbin_names, macbin_place, macbin_lengths, macbin_versions, macbin_header}
use Rattle.rz_bridge.specs.declared.file.MacFile.{MacFile}

pub length-macbin_names : (file : MacFile) → length file.name ≤ 63 → length (macbin_names file) ≡ 73
unfolding macbin_names
length-macbin_names file small = simp (length-append, length-replicate, length-be_4) (omega arith)

pub length-macbin_place : (file : MacFile) → length (macbin_place file) ≡ 10
unfolding macbin_place
length-macbin_place file = simp (length-append, length-be_2)

pub length-macbin_lengths : (file : MacFile) → length (macbin_lengths file) ≡ 18
unfolding macbin_lengths
length-macbin_lengths file = simp (length-append, length-be_2, length-be_4)

pub length-piece : (bytes : List ℕ) (place count : ℕ) → place + count ≤ length bytes → length (piece bytes place count) ≡ count
unfolding piece
length-piece bytes place count within = omega (arith, length-take count (drop place bytes), length-drop place bytes)

pub length-macbin_versions : (file : MacFile) → length file.finder.extra ≡ 16 → length (macbin_versions file) ≡ 23
unfolding macbin_versions
length-macbin_versions file extra =
    simp (length-append, length-replicate, length-be_2, length-be_4) (omega (arith, length-piece file.finder.extra 8 2 (omega (arith, extra))))

pub length-macbin_header : (file : MacFile) → length file.name ≤ 63 → length file.finder.extra ≡ 16 → length (macbin_header file) ≡ 124
length-macbin_header file small extra =
    simp length-append (omega (arith, length-macbin_names file small, length-macbin_place file, length-macbin_lengths file, length-macbin_versions file extra))

pub length-with_filler : (bytes : List ℕ) → length (with_filler bytes) ≡ filled (length bytes)
unfolding with_filler filled
length-with_filler bytes = simp (length-append, length-replicate) (omega arith)

pub filled_least : (n : ℕ) → n ≤ filled n
unfolding filled
filled_least n = omega arith

pub filled_most : (n : ℕ) → filled n ≤ n + 127
unfolding filled
filled_most n = omega arith
