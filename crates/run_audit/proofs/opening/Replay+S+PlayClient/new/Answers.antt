use Rattle.std.proofs.Common.{ℕ, length, replicate, ◌∙◌, ap, arith}
use Rattle.il_machine.specs.Components.{no_progress}
use Rattle.run_audit.proofs.Opened.{same_handles, untold}
use Rattle.run_audit.proofs.opening.Replay+S+PlayClient.new.Goals as goal

pub put_handles-requires-clause-made : goal.put_handles-requires-clause-made
put_handles-requires-clause-made g c = λ place b.
    (let F = c.requires.files in
    let I = c.in-Ok.ensures.made F.files F.ready F.offered in
    let e = ap length c.parts-count.ensures in
    let m = ((I.built).built).many in
    (I.world, I.stands, omega (arith, b, e, m)))

pub returns-clause-unused : goal.returns-clause-unused
returns-clause-unused g c =
    let e = ap length c.parts-count.ensures in
    record {
      works_many = c.put_nothing-2.ensures.many ∙ e;
      works = λ place b. c.put_nothing-2.ensures.each place (omega (arith, b, e));
      clients_many = c.put_nothing.ensures.many ∙ e;
      clients = λ place b. c.put_nothing.ensures.each place (omega (arith, b, e));
      told = c.put_untold.ensures ∙ (ap (λ (n : ℕ). replicate n no_progress) e ∙ untold c.args.plan.parts);
      order = c.new.ensures;
    }

pub returns-clause-opens : goal.returns-clause-opens
returns-clause-opens g c = λ given ready offered.
    (let I = c.in-Ok.ensures.made given ready offered in
    let e = ap length c.parts-count.ensures in
    let m = ((I.built).built).many in
    let n = c.put_handles.ensures.many in
    record {
      opening = I.world;
      opens = (I.handles, I.built);
      stands = I.stands;
      handles = same_handles c.put_handles.new.handles.items (I.world).components (omega (arith, e, m, n)) (λ place h f. c.put_handles.ensures.each place h f I.world I.stands);
    })
