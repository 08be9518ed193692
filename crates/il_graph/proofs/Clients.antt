-- Whose client object is where, once a call has changed the component that a handle names and the graph has closed.
use Rattle.std.proofs.Common.{◌≡◌, ℕ, true, List, Option, Some, MatchOption, option_map, option_and_then, slice_get, sym, ◌∙◌, ap, subst}
use Rattle.omx_types.specs.declared.handle.Handle.{Handle}
use Rattle.il_machine.specs.declared.answer.Progress.{Progress}
use Rattle.il_machine.specs.World.{Component, is_at, same_handle}
use Rattle.il_machine.proofs.Places.{is_first_place, passes_at}
use Rattle.note_queues.specs.declared.taken.Took.{Took}
use Rattle.note_queues.specs.declared.taken.Took.TheVariants as tooks
use Rattle.il_component.specs.Entries.{Entry}
use Rattle.graph_core.specs.Entries.{Entries, client_named, client_of, components_of, component_at, entry_place}
use Rattle.graph_core.specs.Clients.{KeepsAllClients, KeepsClients, TakesClient}
use Rattle.graph_core.proofs.Clients.{client_at, in_now}
use Rattle.graph_core.proofs.Registering.{same_fields}
use Rattle.il_graph.proofs.Calling.{Found, at_some}

same_is : (h k : Handle) → same_handle h k ≡ true → h ≡ k
same_is h k s = let f = same_fields h k s in λ j. record { slot = f.0 j; generation = f.1 j }

module _ {C : Type 0} where
  -- the entries are the same
  pub same_clients : (g k : Entries C) → k.entries ≡ g.entries → KeepsAllClients g k
  same_clients g k e = λ h. ap (λ (es : List (Entry C)). client_at es (entry_place h es)) e

  closes_taken : (h : Handle) (g m k : Entries C) (took : Took C) → TakesClient h g took m → KeepsAllClients m k → TakesClient h g took k
  closes_taken h g m k (tooks.Call call) t closes = (t.0, closes h ∙ t.1)
  closes_taken h g m k tooks.None t closes = (t.0, closes h ∙ t.1)
  closes_taken h g m k tooks.Busy t closes = (t.0, closes h ∙ t.1)

  module _ (progress : C → Progress) (g m k : Entries C) (h : Handle) (i : ℕ) (F : Found progress g h i) (closes : KeepsAllClients m k) where
    pub own : F.component.handle ≡ h
    own =
        let cs = components_of g.entries in
        let x = passes_at (is_at h) cs i (sym (is_first_place (is_at h) cs) ∙ F.place) in
        let z : Some x.0 ≡ Some F.component = sym x.1 ∙ F.at in
        let y : x.0 ≡ F.component = cc in
        ap (λ (c : Component). c.handle) (sym y) ∙ same_is (x.0).handle h x.2

    -- what holds of the component's own handle holds of the handle that names it
    of_own : (P : Handle → Type 0) → MatchOption (component_at i g) ⊥ (λ c. P c.handle) → P h
    of_own P a = subst P own (at_some (λ c. P c.handle) (component_at i g) F.component F.at a)

    pub others_kept : MatchOption (component_at i g) ⊥ (λ c. KeepsClients c.handle g m) → KeepsClients h g k
    others_kept a = λ n d. closes n ∙ of_own (λ x. KeepsClients x g m) a n d

    pub client_is : (o : Option C) → MatchOption (component_at i g) ⊥ (λ c. client_of c.handle m ≡ o) → client_of h k ≡ o
    client_is o a = ap in_now (closes h) ∙ of_own (λ x. client_of x m ≡ o) a

    pub named_is : (o : Option (Option C)) → MatchOption (component_at i g) ⊥ (λ c. client_named c.handle m ≡ o) → client_named h k ≡ o
    named_is o a = closes h ∙ of_own (λ x. client_named x m ≡ o) a

    pub client_taken : (took : Took C) → MatchOption (component_at i g) ⊥ (λ c. TakesClient c.handle g took m) → TakesClient h g took k
    client_taken took a = closes_taken h g m k took (of_own (λ x. TakesClient x g took m) a) closes

-- the client object of the component that the handle names
pub own_client : {C : Type 0} (progress : C → Progress) (g : Entries C) (h : Handle) (i : ℕ) (F : Found progress g h i) → Some i ≡ entry_place h g.entries → (client : C) → MatchOption (slice_get g.entries i) ⊥ (λ e. e.queues.client ≡ Some client) → client_of h g ≡ Some client
own_client {C = C} progress g h i F place client m =
    let own : (F.entry).queues.client ≡ Some client = at_some (λ e. e.queues.client ≡ Some client) (slice_get g.entries i) F.entry F.entry_at m in
    let named : client_named h g ≡ Some (F.entry).queues.client
    = ap (λ (o : Option ℕ). option_map (λ (e : Entry C). e.queues.client) (option_and_then (slice_get g.entries) o)) (sym place) ∙ ap (option_map (λ (e : Entry C). e.queues.client)) F.entry_at in
    ap (option_and_then (λ (client : Option C). client)) named ∙ own
