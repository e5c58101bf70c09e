use Rattle.std.proofs.Common.{◌≡◌, ◌*◌, ◌++◌, [], ◌∷◌, ℕ, Option, length, sym, ap, ◌∙◌, arith}
use Rattle.rz_bits.specs.Bits.{bits_of}
use Rattle.rz_layout.specs.Text.{sized_length}
use Rattle.rz_types_fields.specs.declared.field.TextForm.{TextForm}
use Rattle.rz_types.specs.Stored.{before_zero, stored_text, to_size}
use Rattle.rz_layout.proofs.Room.{length_number}
use Rattle.rz_layout.proofs.Stores.{length_to_size, on_ok, pascal_room, room_after, word_room, zero_end, zero_room}
use Rattle.rz_layout.proofs.push.push_text.Goals as goal

pub push_sized-requires-in-Pascal : goal.push_sized-requires-in-Pascal
push_sized-requires-in-Pascal c = record {
  room = pascal_room c.args.bits.now c.push.new.self c.args.size (length c.args.bytes.now) c.args.form c.requires.room c.left_of.result c.in-Pascal.is c.in_ok-push-in-Pascal.ensures.ok;
}

pub push-requires-in-WordLong-2-clause-room : goal.push-requires-in-WordLong-2-clause-room
push-requires-in-WordLong-2-clause-room c =
    let room = word_room c.args.bits.now c.push-in-WordLong.new.self c.args.size (length c.args.bytes.now) c.args.form c.requires.room _ c.in-WordLong.is c.in_ok-push-in-WordLong.ensures.ok in
    omega (arith, room)

pub push_sized-requires-in-WordLong : goal.push_sized-requires-in-WordLong
push_sized-requires-in-WordLong c =
    let room = word_room c.args.bits.now c.push-in-WordLong.new.self c.args.size (length c.args.bytes.now) c.args.form c.requires.room _ c.in-WordLong.is c.in_ok-push-in-WordLong.ensures.ok in
    record {
      room = room_after c.push-in-WordLong.new.self _ c.push-in-WordLong-2.new.self 8 (8 * sized_length c.args.size (length c.args.bytes.now)) (length_number 8 _) c.in_ok-push-in-WordLong-2.ensures.ok room;
    }

pub push_bytes-requires : goal.push_bytes-requires
push_bytes-requires c = record {
  room = zero_room c.args.bits.now c.push_sized-in-Zero.new.bits c.args.size (length c.args.bytes.now) c.args.form c.requires.room (to_size (before_zero c.args.size) c.args.bytes.now)
      (length_to_size (before_zero c.args.size) c.args.bytes.now) c.in-Zero.is
      (c.in_ok-push_sized-in-Zero.ensures ∙ ap (λ (s : Option ℕ). c.args.bits.now ++ bits_of (to_size s c.args.bytes.now)) c.before_zero.ensures);
}

pub returns-in_ok-push_sized-in-Zero : goal.returns-in_ok-push_sized-in-Zero
returns-in_ok-push_sized-in-Zero c =
    on_ok c.push_bytes.result (c.push_bytes.new.self ≡ c.push_sized-in-Zero.new.bits ++ bits_of (0 ∷ []))
    (c.push_bytes.new.self ≡ c.args.bits.now ++ bits_of (stored_text c.args.form c.args.size c.args.bytes.now))
    (λ so. zero_end c.args.bits.now c.push_sized-in-Zero.new.bits c.push_bytes.new.self (to_size (before_zero c.args.size) c.args.bytes.now)
    (c.in_ok-push_sized-in-Zero.ensures ∙ ap (λ (s : Option ℕ). c.args.bits.now ++ bits_of (to_size s c.args.bytes.now)) c.before_zero.ensures) so
    ∙ ap (λ (f : TextForm). c.args.bits.now ++ bits_of (stored_text f c.args.size c.args.bytes.now)) (sym c.in-Zero.is))
    c.push_bytes.ensures.ok
