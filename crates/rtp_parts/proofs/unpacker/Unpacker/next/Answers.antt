use Rattle.std.proofs.Common.{rules, ◌≡◌, ℕ, ◌+◌, ◌-◌, ◌≤◌, ◌<◌, ◌^◌, map, refl, sym, ap, subst, ◌∙◌, arith, Option, ◌*◌}
use Rattle.rtp_parts.specs.Sorting.{gap_before}
use Rattle.rtp_parts.specs.Steps.{Line, Course, numbered_of, with_first, course_of, counts_in, room_left, steps_left}
use Rattle.rtp_parts.proofs.CourseLeft.{left-first, left-on, codes-given, counts-given, codes-none, counts-none}
use Rattle.rtp_parts.proofs.unpacker.Unpacker.next.Goals as goal

pub returns-in-Some-clause-given : goal.returns-in-Some-clause-given
returns-in-Some-clause-given g c = λ x is silence.
    let u = c.loop-held.self in
    let a = numbered_of c.in-Some.held in
    let first : course_of u ≡ record (course_of c.piece.new.self) { line = with_first a (course_of c.piece.new.self).line } =
    ap (λ (l : Line). record (course_of u) { line = l }) c.in-Some.ensures.given
    ∙ sym (ap (λ (v : Course). record v { line = with_first a v.line }) c.piece.ensures.same) in
    codes-given silence c.piece.result.silence c.piece.result.payload.items c.args.self.now u c.piece.new.self a _ _ (c.loop-held.invariant.left x is)
    (left-first a u c.piece.new.self _ first (sym c.piece.ensures.ended) c.in-Some.ensures.due)
    c.piece.ensures.ends (c.piece.ensures.silence ∙ ap (λ (e : Option ℕ). gap_before e c.in-Some.held.timestamp) c.loop-held.invariant.last) c.piece.ensures.items

pub returns-in-Some-clause-counts : goal.returns-in-Some-clause-counts
returns-in-Some-clause-counts g c = λ x is.
    let u = c.loop-held.self in
    let a = numbered_of c.in-Some.held in
    let first : course_of u ≡ record (course_of c.piece.new.self) { line = with_first a (course_of c.piece.new.self).line } =
    ap (λ (l : Line). record (course_of u) { line = l }) c.in-Some.ensures.given
    ∙ sym (ap (λ (v : Course). record v { line = with_first a v.line }) c.piece.ensures.same) in
    counts-given c.args.self.now u c.piece.new.self a _ _ (c.loop-held.invariant.left x is)
    (left-first a u c.piece.new.self _ first (sym c.piece.ensures.ended) c.in-Some.ensures.due)

pub returns-then-self-clause-none : goal.returns-then-self-clause-none
returns-then-self-clause-none g c = λ x is silence.
    codes-none silence c.args.self.now c.loop-held.self _ _ (c.loop-held.invariant.left x is) c.if-self.true
    (sym (ap (λ (l : Line). l.line) c.in-None.ensures.kept) ∙ ap (map numbered_of) (c.in-None.ensures.empty c.if-self.true))

pub returns-then-self-clause-all : goal.returns-then-self-clause-all
returns-then-self-clause-all g c = λ x is.
    counts-none c.args.self.now c.loop-held.self _ _ (c.loop-held.invariant.left x is) c.if-self.true
    ∙ ap (λ (l : Line). counts_in (record (course_of c.loop-held.self) { line = l })) (sym c.in-None.ensures.kept)

pub loop-held-preserved : goal.loop-held-preserved
loop-held-preserved g c =
    let v = c.take_record.new.self in
    let offset = g.S.Source.offset c.take_record.new.src in
    let few : v.packets + room_left v (g.S.Source.size c.args.src.now - offset) ≤ 2 ^ 27 =
    subst (λ (n : ℕ). v.packets + room_left v (n - offset) ≤ 2 ^ 27) c.loop-held.invariant.size c.in_ok-take_record-in-None.ensures.few in
    let steps = subst (λ (n : ℕ). steps_left v (n - offset) < 2 * room_left c.loop-held.self (n - g.S.Source.offset c.loop-held.src) + c.due.new.self.held.len) c.loop-held.invariant.size c.in_ok-take_record-in-None.ensures.steps in
    record {
      left = λ x is. left-on c.args.self.now c.loop-held.self _ v _ _ _ (c.loop-held.invariant.left x is) (c.in_ok-take_record-in-None.ensures.left x (c.loop-held.invariant.told ∙ is))
          (ap (λ (l : Line). record (course_of c.loop-held.self) { line = l }) (sym c.in-None.ensures.kept)) refl;
      last = c.in_ok-take_record-in-None.ensures.end ∙ c.loop-held.invariant.last;
      few = few;
      steps = omega (arith, steps, c.loop-held.invariant.steps, c.in-None.ensures.held);
      room = search rules;
      reached = λ end is. c.in_ok-take_record-in-None.ensures.reached end (c.loop-held.invariant.ends ∙ is);
      told = c.in_ok-take_record-in-None.ensures.keeps_source.told ∙ c.loop-held.invariant.told;
      src_name = c.in_ok-take_record-in-None.ensures.keeps_source.name ∙ c.loop-held.invariant.src_name;
      ends = c.in_ok-take_record-in-None.ensures.keeps_source.ends ∙ c.loop-held.invariant.ends;
      size = c.in_ok-take_record-in-None.ensures.keeps_source.size ∙ c.loop-held.invariant.size;
      stays = c.in_ok-take_record-in-None.ensures.stays ∙ c.loop-held.invariant.stays;
    }
