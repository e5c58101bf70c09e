use Rattle.std.proofs.Common.{◌≡◌, ℕ, ◌+◌, ◌/◌, ◌%◌, ◌++◌, ap, ◌∙◌, get_or, length, take, arith}
use Rattle.std.proofs.lemmas.Result.{on_ok_weaker}
use Rattle.std.specs.Int.{bytes_high_first}
use Rattle.rz_bits.specs.Held.{spelled}
use Rattle.rz_bits.proofs.Held.{held_size, last_of_eight, length-bytes, piece_size, pushed_bits, pushed_held}
use Rattle.rz_bits.proofs.tail.push_bits.Goals as goal

pub put_tail-requires-clause-within : goal.put_tail-requires-clause-within
put_tail-requires-clause-within c = let n = held_size c.args.bytes.now.items c.args.count c.requires.held in omega (arith, n)

pub put_tail-requires-clause-one : goal.put_tail-requires-clause-one
put_tail-requires-clause-one c = let n = held_size c.args.bytes.now.items c.args.count c.requires.held in omega (arith, n)

pub put_tail-requires-clause-piece : goal.put_tail-requires-clause-piece
put_tail-requires-clause-piece c =
    let size : ℕ = (c.args.count % 8 + c.args.width + c.missing.result) / 8 in
    let held = held_size c.args.bytes.now.items c.args.count c.requires.held in
    let piece = piece_size c.args.count c.args.width c.missing.result c.missing.ensures.is c.requires.width in
    let long = ap length (last_of_eight size c.spelled-number.result c.to_be_bytes.result piece.0 c.to_be_bytes.ensures) ∙ length-bytes size c.spelled-number.result in
    rw long (omega (arith, held, piece.1))

pub returns-clause-ok : goal.returns-clause-ok
returns-clause-ok c =
    let size : ℕ = (c.args.count % 8 + c.args.width + c.missing.result) / 8 in
    let piece = piece_size c.args.count c.args.width c.missing.result c.missing.ensures.is c.requires.width in
    let byte : c.open_byte.result ≡ get_or c.args.bytes.now.items (c.args.count / 8) 0 = c.open_byte.ensures ∙ ap (λ xs. get_or xs (c.args.count / 8) 0) c.deref.ensures.value in
    let number : c.spelled-number.result ≡ spelled (get_or c.args.bytes.now.items (c.args.count / 8) 0) (c.args.count % 8) c.args.value c.args.width =
    c.spelled-number.ensures ∙ ap (λ b. spelled b (c.args.count % 8) c.args.value c.args.width) byte in
    let tail = last_of_eight size c.spelled-number.result c.to_be_bytes.result piece.0 c.to_be_bytes.ensures ∙ ap (bytes_high_first size) number in
    on_ok_weaker c.put_tail.result
    (λ is.
    let written = is ∙ ap (λ xs. take (c.args.count / 8) c.args.bytes.now.items ++ xs) tail in (
      pushed_held c.args.bytes.now.items c.put_tail.new.bytes.items c.args.count c.args.value c.args.width size c.requires.held c.requires.room piece.1 written,
      pushed_bits c.args.bytes.now.items c.put_tail.new.bytes.items c.args.count c.args.value c.args.width size c.requires.held c.requires.room piece.1 written,
    ))
    c.put_tail.ensures.ok
