-- The client object of a component goes out with a note, and else is where it was.
use Rattle.std.proofs.Common.{◌≡◌, ◌⊎◌, inl, inr, ℕ, true, false, Option, Some, None, IsSome, slice_get, is_none, refl, sym, ◌∙◌, ap, subst}
use Rattle.note_queues.specs.declared.taken.Call.{Call}
use Rattle.note_queues.specs.declared.taken.Took.{Took}
use Rattle.note_queues.specs.declared.taken.Took.TheVariants as tooks
use Rattle.note_queues.specs.Queues.{took, after_taking}
use Rattle.il_component.specs.Entries.{Entry}
use Rattle.graph_core.specs.Clients.{TakesClient}
use Rattle.graph_core.specs.Entries.{Entries, entry_place, client_named, changed_at}
use Rattle.graph_core.proofs.Clients.{client_there, client_set, in_now}
use Rattle.graph_core.proofs.Taking.{was_taken, after_call, left, took_none, took_busy}

some_in : {C : Type 0} (o : Option C) → is_none o ≡ false → IsSome o
some_in None h = absurd cc
some_in (Some x) h = refl

none_out : {C : Type 0} (o : Option C) → is_none o ≡ true → o ≡ None
none_out None h = refl
none_out (Some x) h = absurd cc

module _ {C : Type 0} (g : Entries C) (i : ℕ) (e d : Entry C) (l : d ≡ record e { queues = after_taking e.queues }) (own : entry_place e.handle g.entries ≡ Some i) (at : slice_get g.entries i ≡ Some e) where
  before : client_named e.handle g ≡ Some e.queues.client
  before = client_there g.entries i e e.handle own at

  now : client_named e.handle (changed_at i d g) ≡ Some d.queues.client
  now = client_set g.entries i e d e.handle own at (ap (λ (x : Entry C). x.handle) l)

  pub call_client : (call : Call C) → took e.queues ≡ tooks.Call call → TakesClient e.handle g (tooks.Call call) (changed_at i d g)
  call_client call h =
      let gone : d ≡ left e (was_taken e.queues call h).rest = l ∙ after_call e call h in
      (ap in_now before ∙ (was_taken e.queues call h).client, now ∙ ap (λ (x : Entry C). Some x.queues.client) gone)

  pub no_call_client : (r : Took C) → took e.queues ≡ r → ((r ≡ tooks.None) ⊎ (r ≡ tooks.Busy)) → TakesClient e.handle g r (changed_at i d g)
  no_call_client r h k = elim k [
    | inl q ↦
        let same : d ≡ e = l ∙ rw (h ∙ q) refl in
        let z : Some d.queues.client ≡ Some e.queues.client = ap (λ (x : Entry C). Some x.queues.client) same in
        let s : IsSome e.queues.client = some_in e.queues.client (took_none e.queues.client e.queues.notes (h ∙ q)).0 in
        subst (λ (t : Took C). TakesClient e.handle g t (changed_at i d g)) (sym q) (subst (λ (o : Option (Option C)). IsSome (in_now o)) (sym before) s, now ∙ (z ∙ sym before))
    | inr q ↦
        let same : d ≡ e = l ∙ rw (h ∙ q) refl in
        let z : Some d.queues.client ≡ Some e.queues.client = ap (λ (x : Entry C). Some x.queues.client) same in
        let n : Some e.queues.client ≡ Some None = ap (λ (x : Option C). Some x) (none_out e.queues.client (took_busy e.queues.client e.queues.notes (h ∙ q))) in
        subst (λ (t : Took C). TakesClient e.handle g t (changed_at i d g)) (sym q) (before ∙ n, now ∙ (z ∙ n))
  ]
