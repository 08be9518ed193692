use Rattle.std.proofs.Common.{inl, false, refl, ◌∙◌, ap}
use Rattle.std.specs.Vec.{with_items}
use Rattle.std.proofs.lemmas.List.{with_items_is}
use Rattle.play_log.specs.Lines.{LogLine}
use Rattle.audit_forms.specs.Told.{told_more}
use Rattle.run_audit.specs.declared.replay.Passed.TheVariants.{On}
use Rattle.run_audit.specs.Seeing.{replay_sight}
use Rattle.run_audit.proofs.AtLine.{bad_line, handles_same, line_files, line_passes, line_stands, line_stops, mid_files, mid_shows, other_act, plan_same, stands_mid}
use Rattle.run_audit.proofs.Files.{files_same}
use Rattle.run_audit.proofs.Lined.{next_may}
use Rattle.run_audit.proofs.replay.Replay.line.Goals as goal

pub returns-in_default : goal.returns-in_default
returns-in_default g c = record {
  passed = λ tells x at I told. bad_line x c.args.number at c.args.piece.now c.in_default.ensures.only;
  stands = λ tells x at I. (at.world, I.standing, inl (refl, I.order));
  files = files_same (replay_sight g.C.Client g.S.Source) false c.args.self.now c.args.self.now (λ j. refl);
  shows = tt;
  plan = refl;
  handles = refl;
}

pub admits-requires : goal.admits-requires
admits-requires g c = (c.requires.3).few

pub returns-then-not-admits : goal.returns-then-not-admits
returns-then-not-admits g c =
    let see = (replay_sight g.C.Client g.S.Source) in
    let old = c.args.self.now in
    let mid = c.admits.new.self in
    let rest = c.admits.ensures.rest in
    let line : LogLine = record { pass = c.in-Some.line.pass; said = c.in-Some.line.said } in
    let no = c.if-not-admits.true in
    record {
      passed = λ tells x at I told. other_act see old mid rest tells x at I line c.args.number c.args.piece.now c.in-Some.ensures.some (c.admits.ensures.no no);
      stands = λ tells x at I. (at.world, stands_mid see old mid rest tells x at I, inl (refl, c.admits.ensures.still no ∙ I.order));
      files = mid_files see old mid rest false mid (files_same see false mid mid (λ j. refl));
      shows = tt;
      plan = ap (λ r. r.plan) rest;
      handles = ap (λ r. r.handles) rest;
    }

pub act-requires : goal.act-requires
act-requires g c = record {
  may = next_may c.args.self.now.plan c.args.self.now.told.items c.args.self.now.order (c.in-Some.line.said).act (c.admits.new.self).order (c.admits.ensures.yes c.if-not-admits.false);
  stands = (c.requires.0, c.requires.1, (c.requires.2).world, stands_mid (replay_sight g.C.Client g.S.Source) c.args.self.now c.admits.new.self c.admits.ensures.rest c.requires.0 c.requires.1 c.requires.2 c.requires.3);
}

pub returns-in-On : goal.returns-in-On
returns-in-On g c =
    let see = (replay_sight g.C.Client g.S.Source) in
    let old = c.args.self.now in
    let mid = c.admits.new.self in
    let new = c.act.new.self in
    let rest = c.admits.ensures.rest in
    let line : LogLine = record { pass = c.in-Some.line.pass; said = c.in-Some.line.said } in
    let yes = c.admits.ensures.yes c.if-not-admits.false in
    let of_play = c.in-Some.ensures.some in
    let L = c.in-On.ensures in
    let heard = with_items_is new.told c.tell.new.told (c.tell.auto.told ∙ c.as_mut_slice.ensures.len)
    ∙ (c.tell.ensures ∙ (ap (λ ps. told_more line.said ps c.as_mut_slice.result.now) c.parts.ensures ∙ ap (told_more line.said (new.plan).parts) c.as_mut_slice.ensures.value)) in
    record {
      passed = λ tells x at I. line_passes see old mid rest tells x at I line c.args.number c.args.piece.now of_play yes new L (with_items new.told c.tell.new.told) heard;
      stands = λ tells x at I. line_stands see old mid rest tells x at I line c.args.number c.args.piece.now of_play yes new On L;
      files = line_files see old mid rest c.requires.0 c.requires.1 c.requires.2 c.requires.3 line c.args.number c.args.piece.now of_play yes new On L;
      shows = tt;
      plan = plan_same see old mid rest c.requires.0 c.requires.1 c.requires.2 c.requires.3 line c.args.number c.args.piece.now of_play yes new On L;
      handles = handles_same see old mid rest c.requires.0 c.requires.1 c.requires.2 c.requires.3 line c.args.number c.args.piece.now of_play yes new On L;
    }

pub returns-in_default-act : goal.returns-in_default-act
returns-in_default-act g c =
    let see = (replay_sight g.C.Client g.S.Source) in
    let old = c.args.self.now in
    let mid = c.admits.new.self in
    let new = c.act.new.self in
    let rest = c.admits.ensures.rest in
    let line : LogLine = record { pass = c.in-Some.line.pass; said = c.in-Some.line.said } in
    let yes = c.admits.ensures.yes c.if-not-admits.false in
    let of_play = c.in-Some.ensures.some in
    let L = c.act.ensures in
    record {
      passed = λ tells x at I. line_stops see old mid rest tells x at I line c.args.number c.args.piece.now of_play yes new c.act.result L c.in_default-act.not-On;
      stands = λ tells x at I. line_stands see old mid rest tells x at I line c.args.number c.args.piece.now of_play yes new c.act.result L;
      files = line_files see old mid rest c.requires.0 c.requires.1 c.requires.2 c.requires.3 line c.args.number c.args.piece.now of_play yes new c.act.result L;
      shows = mid_shows see old mid rest c.act.result new L.shows;
      plan = plan_same see old mid rest c.requires.0 c.requires.1 c.requires.2 c.requires.3 line c.args.number c.args.piece.now of_play yes new c.act.result L;
      handles = handles_same see old mid rest c.requires.0 c.requires.1 c.requires.2 c.requires.3 line c.args.number c.args.piece.now of_play yes new c.act.result L;
    }
