use Rattle.std.proofs.Common.{◌≡◌, [], ap, refl, subst, take, ◌∙◌}
use Rattle.std.specs.Io.KnownBytes.{append_known}
use Rattle.outside_io.specs.Moves.{AppendsFront}
use Rattle.play_log.specs.Gathering.{GatheredValue}
use Rattle.play_log.proofs.Gathering.{puts_broken, puts_flushed}
use Rattle.play_log.proofs.gathered.Gathered.flush.Goals as goal

pub returns-in_err-write_all-clause-puts : goal.returns-in_err-write_all-clause-puts
returns-in_err-write_all-clause-puts g c =
    let held : take c.self.inside.len c.deref.result.now ≡ c.args.self.now.held = ap (take c.self.inside.len) c.deref.ensures.value ∙ ap (λ (it : GatheredValue). it.held) c.self.view_is in
    puts_broken _ _ c.args.self.now.held [] c.from_residual.result c.from_residual.ensures.0 (subst (AppendsFront _ _) held c.write_all.ensures.front)

pub returns-clause-puts : goal.returns-clause-puts
returns-clause-puts g c =
    let held : take c.self.inside.len c.deref.result.now ≡ c.args.self.now.held = ap (take c.self.inside.len) c.deref.ensures.value ∙ ap (λ (it : GatheredValue). it.held) c.self.view_is in
    puts_flushed _ _ c.args.self.now.held [] tt (c.in_ok-write_all.ensures.whole ∙ ap (append_known _) held) refl
