use Rattle.std.proofs.Common.{[], ◌∷◌, false, sym, ◌∙◌, arith}
use Rattle.audit_lines.specs.Lines.{pieces_of}
use Rattle.run_audit.specs.Seeing.{replay_sight}
use Rattle.run_audit.proofs.Along.{come_on, come_so, walked_broken, walked_ending, walked_out, walked_stop}
use Rattle.run_audit.proofs.Files.{files_then}
use Rattle.run_audit.proofs.replay.Replay.walk.Goals as goal

pub returns-then-is_end-clause-walked : goal.returns-then-is_end-clause-walked
returns-then-is_end-clause-walked g c tells x at I =
    let K = c.loop-piece.invariant.come tells x at I in
    let come = come_so x c.args.first at (pieces_of c.args.text.now) c.loop-piece.number K.0 (pieces_of c.loop-piece.rest.now) (c.in-Some.piece.now ∷ pieces_of c.in-Some.behind.now) c.in-Some.ensures.some K.1 in
    walked_ending x c.args.first at (pieces_of c.args.text.now) c.loop-piece.number K.0 (replay_sight g.C.Client g.S.Source) tells c.loop-piece.self c.in-Some.piece.now c.in-Some.behind.now c.ended.result (sym c.is_end.ensures ∙ c.if-is_end.true) c.ended.ensures.last c.ended.ensures.more come K.2

pub line-requires : goal.line-requires
line-requires g c =
    let s = c.requires.stands in
    let K = c.loop-piece.invariant.come s.0 s.1 s.2 s.3 in
    (s.0, s.1, K.0, K.2)

pub returns-in-Stop-clause-walked : goal.returns-in-Stop-clause-walked
returns-in-Stop-clause-walked g c tells x at I =
    let K = c.loop-piece.invariant.come tells x at I in
    let come = come_so x c.args.first at (pieces_of c.args.text.now) c.loop-piece.number K.0 (pieces_of c.loop-piece.rest.now) (c.in-Some.piece.now ∷ pieces_of c.in-Some.behind.now) c.in-Some.ensures.some K.1 in
    walked_stop x c.args.first at (pieces_of c.args.text.now) c.loop-piece.number K.0 (replay_sight g.C.Client g.S.Source) tells c.line.new.self c.in-Some.piece.now (pieces_of c.in-Some.behind.now) (sym c.is_end.ensures ∙ c.if-is_end.false) come c.in-Stop.why
    (c.in-Stop.ensures.passed tells x K.0 K.2) (c.in-Stop.ensures.stands tells x K.0 K.2)

pub returns-in-Failed-clause-walked : goal.returns-in-Failed-clause-walked
returns-in-Failed-clause-walked g c tells x at I =
    let K = c.loop-piece.invariant.come tells x at I in
    let come = come_so x c.args.first at (pieces_of c.args.text.now) c.loop-piece.number K.0 (pieces_of c.loop-piece.rest.now) (c.in-Some.piece.now ∷ pieces_of c.in-Some.behind.now) c.in-Some.ensures.some K.1 in
    walked_broken x c.args.first at (pieces_of c.args.text.now) c.loop-piece.number K.0 (replay_sight g.C.Client g.S.Source) tells c.line.new.self c.in-Some.piece.now (pieces_of c.in-Some.behind.now) (sym c.is_end.ensures ∙ c.if-is_end.false) come c.in-Failed.component c.in-Failed.fault
    (c.in-Failed.ensures.passed tells x K.0 K.2) (c.in-Failed.ensures.stands tells x K.0 K.2)

pub loop-piece-preserved : goal.loop-piece-preserved
loop-piece-preserved g c =
    let inv = c.loop-piece.invariant in
    let shorter = c.in-Some.ensures.shorter in
    let room = inv.room in
    record {
      come = λ tells x at I. (
          let K = inv.come tells x at I in
          let come = come_so x c.args.first at (pieces_of c.args.text.now) c.loop-piece.number K.0 (pieces_of c.loop-piece.rest.now) (c.in-Some.piece.now ∷ pieces_of c.in-Some.behind.now) c.in-Some.ensures.some K.1 in
          let L = c.in-On.ensures.passed tells x K.0 K.2 in
          (L.0, come_on x c.args.first at (pieces_of c.args.text.now) c.loop-piece.number K.0 c.in-Some.piece.now (pieces_of c.in-Some.behind.now) L.0 come (sym c.is_end.ensures ∙ c.if-is_end.false) L.1, L.2));
      files = files_then (replay_sight g.C.Client g.S.Source) false c.args.self.now c.loop-piece.self c.line.new.self inv.files c.in-On.ensures.files;
      plan = c.in-On.ensures.plan ∙ inv.plan;
      handles = c.in-On.ensures.handles ∙ inv.handles;
      room = omega (arith, shorter, room);
    }

pub returns-clause-walked : goal.returns-clause-walked
returns-clause-walked g c tells x at I =
    let K = c.loop-piece.invariant.come tells x at I in
    let come = come_so x c.args.first at (pieces_of c.args.text.now) c.loop-piece.number K.0 (pieces_of c.loop-piece.rest.now) [] c.in_default.ensures.none K.1 in
    walked_out x c.args.first at (pieces_of c.args.text.now) c.loop-piece.number K.0 (replay_sight g.C.Client g.S.Source) tells c.loop-piece.self come K.2
