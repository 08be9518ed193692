use Rattle.std.proofs.Common.{None, Some, slice_get, slice_set, sym, ◌∙◌, ap}
use Rattle.std.specs.Vec.{with_items}
use Rattle.std.proofs.lemmas.List.{with_items_is}
use Rattle.std.proofs.lemmas.Option.{slice_get-get_or}
use Rattle.run_audit.specs.Seeing.{replay_sight}
use Rattle.run_audit.proofs.Settled.{handle_there, idle_client, object_gone, settled_client}
use Rattle.run_audit.proofs.replay.Replay.settle_client.Goals as goal

pub returns-in_default-clause-stands : goal.returns-in_default-clause-stands
returns-in_default-clause-stands g c tells x w I =
    idle_client (replay_sight g.C.Client g.S.Source) c.args.self.now tells x w I (with_items (c.args.self.now).clients c.take_at.new.things) c.args.place (with_items_is (c.args.self.now).clients c.take_at.new.things (c.take_at.auto.things ∙ c.as_mut_slice.ensures.len) ∙ (c.take_at.ensures.left ∙ ap (λ l. slice_set l c.args.place None) c.as_mut_slice.ensures.value)) (ap (λ l. slice_get l c.args.place) (sym c.as_mut_slice.ensures.value) ∙ c.in_default.ensures.was)

pub give_back-requires : goal.give_back-requires
give_back-requires g c =
    object_gone (replay_sight g.C.Client g.S.Source) c.args.self.now c.requires.stands.0 c.requires.stands.1 c.requires.stands.2 c.requires.stands.3 c.args.place c.index-h.result.now c.in-Some.client
    (slice_get-get_or (c.args.self.now).handles.items c.args.place _ (handle_there (replay_sight g.C.Client g.S.Source) c.args.self.now c.requires.stands.0 c.requires.stands.1 c.requires.stands.2 c.requires.stands.3 c.args.place c.requires.there) ∙ ap Some (sym c.index-h.ensures)) (ap (λ l. slice_get l c.args.place) (sym c.as_mut_slice.ensures.value) ∙ c.in-Some.ensures.was)

pub returns-clause-stands : goal.returns-clause-stands
returns-clause-stands g c tells x w I =
    settled_client (replay_sight g.C.Client g.S.Source) c.args.self.now c.give_back.new.served (with_items (c.args.self.now).clients c.take_at.new.things) c.args.place (with_items_is (c.args.self.now).clients c.take_at.new.things (c.take_at.auto.things ∙ c.as_mut_slice.ensures.len) ∙ (c.take_at.ensures.left ∙ ap (λ l. slice_set l c.args.place None) c.as_mut_slice.ensures.value))
    c.in-Some.client (ap (λ l. slice_get l c.args.place) (sym c.as_mut_slice.ensures.value) ∙ c.in-Some.ensures.was) c.index-h.result.now
    (slice_get-get_or (c.args.self.now).handles.items c.args.place _ (handle_there (replay_sight g.C.Client g.S.Source) c.args.self.now c.requires.stands.0 c.requires.stands.1 c.requires.stands.2 c.requires.stands.3 c.args.place c.requires.there) ∙ ap Some (sym c.index-h.ensures)) c.give_back.ensures c.law_of_worlds.ensures.out c.law_of_worlds-2.ensures.out tells x w I
