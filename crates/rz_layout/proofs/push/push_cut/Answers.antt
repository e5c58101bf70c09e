use Rattle.std.proofs.Common.{◌≡◌, ◌*◌, ◌-◌, ◌++◌, length, arith}
use Rattle.rz_bits.specs.Bits.{bits_of}
use Rattle.rz_bits.specs.BitBuf.{zeros}
use Rattle.rz_types.specs.Stored.{sized}
use Rattle.rz_layout.proofs.Stores.{filled_bits, length_bits, on_ok, room_after}
use Rattle.rz_layout.proofs.push.push_cut.Goals as goal

pub push_many-requires : goal.push_many-requires
push_many-requires c = record {
  room = room_after c.args.bits.now (bits_of c.args.bytes.now) c.push_bytes-2.new.self (8 * length c.args.bytes.now) (8 * (c.args.size - length c.args.bytes.now))
      (length_bits c.args.bytes.now) c.in_ok-push_bytes.ensures.ok (let less = c.if-size-bytes.false in let room = c.requires.room in omega (arith, less, room));
}

pub returns : goal.returns
returns c =
    on_ok c.push_many.result (c.push_many.new.self ≡ c.push_bytes-2.new.self ++ zeros (8 * (c.args.size - length c.args.bytes.now)))
    (c.push_many.new.self ≡ c.args.bits.now ++ bits_of (sized c.args.size c.args.bytes.now))
    (filled_bits c.args.bits.now c.push_bytes-2.new.self c.push_many.new.self c.args.size c.args.bytes.now (let less = c.if-size-bytes.false in omega (arith, less)) c.in_ok-push_bytes.ensures.ok)
    c.push_many.ensures.ok
