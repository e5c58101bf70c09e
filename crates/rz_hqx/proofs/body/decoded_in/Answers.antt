use Rattle.std.proofs.Common.{◌≡◌, ◌+◌, ◌==◌, ℕ, List, drop, get_or, true, false, Some, None, Err, sym, ap, subst, ◌∙◌, arith}
use Rattle.std.proofs.lemmas.Bool.{ne_eqb}
use Rattle.rz_bridge.specs.Faults.{fault}
use Rattle.rz_bridge.specs.declared.fault.BridgeFault.{BridgeFault}
use Rattle.rz_hqx.specs.Held.{decoded_in, read_on, IsSix}
use Rattle.rz_hqx.specs.Letters.{eights, number_of}
use Rattle.rz_hqx.specs.Runs.{unpacked}
use Rattle.rz_hqx.specs.Text.{is_blank}
use Rattle.rz_hqx.specs.declared.body.Letters.{Letters}
use Rattle.rz_hqx.proofs.Lettered.{made_behind, made_is, blank_more, letter_bad, letter_more}
use Rattle.rz_hqx.proofs.body.decoded_in.Goals as goal
use Rattle.rz_hqx.proofs.body.decoded_in.Goals.{in-Some+in_ok-take, in_default+else-byte-eq-COLON+else-not-is_blank}

pub loop-byte-init : goal.loop-byte-init
loop-byte-init c = record {
  so_far = (λ i. made_behind (λ (numbers : List ℕ). c.in_ok-letters.ensures.read numbers i) c.args.place c.args.body.now)
      ∙ made_is c.args.body.now c.args.place (λ (numbers : List ℕ). unpacked (eights numbers));
  at = omega arith;
  place = omega (arith, c.in_ok-letters.ensures.place);
  six = c.in_ok-letters.ensures.six;
}

pub returns-then-not-is_blank-clause-bytes : goal.returns-then-not-is_blank-clause-bytes
returns-then-not-is_blank-clause-bytes c =
    let body = c.args.body.now in
    let index = c.loop-byte.byte-index in
    let byte = get_or body index 0 in
    let other : (byte == 58) ≡ false = ne_eqb byte 58 c.if-byte-eq-COLON.false in
    let blank : is_blank byte ≡ false = cc in
    let none : number_of byte ≡ None = cc in
    let told : c.fault_at.result ≡ fault 442 c.loop-byte.at byte = c.fault_at.ensures ∙ ap (fault 442 c.loop-byte.at) c.from.ensures in
    sym (letter_bad body index c.loop-byte.at (read_on c.loop-byte.letters) (decoded_in c.args.place body) c.loop-byte-test.true c.loop-byte.invariant.so_far other blank none)
    ∙ ap (λ (f : BridgeFault). Err f) (sym told)

pub loop-byte-preserved : goal.loop-byte-preserved
loop-byte-preserved c =
    let body = c.args.body.now in
    let index = c.loop-byte.byte-index in
    let byte = get_or body index 0 in
    let at = c.loop-byte.at in
    let before = c.loop-byte.invariant in
    let all = decoded_in c.args.place body in
    elim c.match-number_of.branch [
      | in-Some+in_ok-take w ↦
          let has : number_of byte ≡ Some w.in-Some.number = cc in
          let more = letter_more body index at (read_on c.loop-byte.letters) all c.loop-byte-test.true before.so_far w.in-Some.number has in
          record {
            so_far =
                subst (λ (l : Letters). made_behind (λ numbers. read_on l numbers) (at + 1) (drop (index + 1) body) ≡ all) (sym w.letters-is)
                ((λ i. made_behind (λ (numbers : List ℕ). w.in_ok-take.ensures.read numbers i) (at + 1) (drop (index + 1) body)) ∙ more);
            at = omega (arith, before.at);
            place = omega (arith, before.place, w.in_ok-take.ensures.place, ap (λ (l : Letters). l.codes.place) w.letters-is);
            six = subst (λ (l : Letters). IsSix l.group) (sym w.letters-is) w.in_ok-take.ensures.six;
          }
      | in_default+else-byte-eq-COLON+else-not-is_blank w ↦
          let other : (byte == 58) ≡ false = ne_eqb byte 58 w.if-byte-eq-COLON.false in
          let blank : is_blank byte ≡ true = cc in
          let more = blank_more body index at (read_on c.loop-byte.letters) all c.loop-byte-test.true before.so_far other blank in
          record {
            so_far = subst (λ (l : Letters). made_behind (λ numbers. read_on l numbers) (at + 1) (drop (index + 1) body) ≡ all) (sym w.letters-is) more;
            at = omega (arith, before.at);
            place = omega (arith, before.place, ap (λ (l : Letters). l.codes.place) w.letters-is);
            six = subst (λ (l : Letters). IsSix l.group) (sym w.letters-is) before.six;
          }
    ]
