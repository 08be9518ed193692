use Rattle.std.proofs.Common.{◌≡◌, List, ℕ, get_or, ◌∙◌, ap, subst}
use Rattle.std.proofs.lemmas.Option.{get_or_from_slice_get}
use Rattle.script_lang.specs.declared.play_line.PartLine.{PartLine}
use Rattle.play_log.specs.Scenes.{IsPlayer}
use Rattle.audit_acts.specs.Asking.{act_by, scene_in}
use Rattle.audit_acts.proofs.Saying.{of_one, says_one}
use Rattle.audit_acts.proofs.asking.act_of.Goals as goal

pub returns-in-Some : goal.returns-in-Some
returns-in-Some g c =
    let said = c.args.said.now in
    let s = scene_in c.args.parts.now c.args.handles.now in
    let x = c.in-Some.ensures.some in
    let place = c.in-Some.player.place in
    let h = c.in-Some.player.handle in
    let part = c.index-parts-player.result in
    let is = of_one said c.requires.said c.in_default.not-Tunnel c.in_default.not-DropTunnel in
    let there : get_or c.args.parts.now place part ≡ x.0 = get_or_from_slice_get c.args.parts.now place x.0 part (x.1).line in
    let same : part ≡ x.0 = c.index-parts-player.is ∙ there in
    let player = subst (λ (name : List ℕ). IsPlayer s place name x.0 h) c.component_in.ensures x.1 in
    record {
      some = λ u. says_one s said place x.0 h _ is player (c.one_act.ensures.act u ∙ ap (λ (p : PartLine). act_by p h said) same);
      plain = c.one_act.ensures.plain;
      none = tt;
    }
