use Rattle.std.proofs.Common.{◌≡◌, map, take, string_bytes}
use Rattle.std.specs.Str.{encode_utf8_all}
use Rattle.rz_core.specs.Roman.{roman_char}
use Rattle.rz_folder.proofs.names.utf8_name.Given as goal

abbrev pub invariant-loop-byte : goal.invariant-loop-byte
invariant-loop-byte l = string_bytes l.whole ≡ encode_utf8_all (map roman_char (take l.byte-index l.name))
