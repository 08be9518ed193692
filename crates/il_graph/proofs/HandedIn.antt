-- Headers that are with the client can be handed in after a call, and so can those that it gives.
use Rattle.std.proofs.Common.{◌≡◌, ◌≢◌, ℕ, Bool, true, false, List, Option, Some, None, option_map, Result, Ok, Err, MatchOption, refl, sym, ◌∙◌, ap, subst}
use Rattle.omx_types.specs.declared.handle.Handle.{Handle}
use Rattle.omx_types.specs.declared.error.OmxError.{OmxError}
use Rattle.il_machine.specs.declared.answer.Progress.{Progress}
use Rattle.il_machine.specs.declared.header.HeaderState.{HeaderState}
use Rattle.il_machine.specs.declared.header.Owner.TheVariants as owners
use Rattle.il_machine.specs.World.{Component, HeaderRecord, World, port_of}
use Rattle.il_machine.specs.Headers.{find_header, state_of, state_given}
use Rattle.il_machine.specs.Look.{Look, look}
use Rattle.il_machine.specs.Due.{ClosesTo}
use Rattle.il_machine.specs.Buffers.{Held, held, AtHeader, IsWithClient}
use Rattle.il_machine.specs.Acts.{Act, Reply}
use Rattle.il_machine.specs.Acts as acts
use Rattle.il_machine.specs.Run.{Step}
use Rattle.il_machine.specs.Sound.{Sound}
use Rattle.il_machine.specs.Whole.{Kept}
use Rattle.stock_laws.specs.Bare.{StandsBare, StepsBare}
use Rattle.machine_laws.proofs.Keys.{there_is, is_there}
use Rattle.machine_laws.proofs.Steps.{HandsIn}
use Rattle.history_laws.specs.ClientHeaders.{IsClients, taken_in, given_out, number_out, IsMadeBy}
use Rattle.history_laws.proofs.ClientHeaders.{clients_after, closing_clients}
use Rattle.history_laws.proofs.KeyLaw.{key_after, closing_key}
use Rattle.history_laws.proofs.ComingHeaders.{comes_to_client, leaves_client, closing_comes}
use Rattle.history_laws.proofs.GivenHeaders.{gives_after}
use Rattle.header_core.specs.BufferHeader.{BufferHeader, is_clients, fresh}
use Rattle.note_queues.specs.declared.taken.Taken.{Taken}
use Rattle.note_queues.specs.declared.taken.Taken.TheVariants.{Told, EmptyDone, FillDone}
use Rattle.note_queues.specs.declared.taken.Call.{Call}
use Rattle.note_queues.specs.declared.taken.Took.{Took}
use Rattle.note_queues.specs.declared.taken.Took.TheVariants as tooks
use Rattle.note_queues.specs.Queues.{took_of}
use Rattle.port_stock.specs.Kept.{StockKept, stocked}
use Rattle.port_stock.specs.Conditions.{IsHeaderOf}
use Rattle.graph_core.specs.Entries.{Entries, look_of, kept, component_at}
use Rattle.graph_core.specs.Standing.{SoundWorld}
use Rattle.graph_core.specs.Changes.{IsHandedIn, Takes, TakesNote}
use Rattle.il_graph.specs.HandedIn.{StayHandedIn, NoneComes, KeepsHandedIn, KeepsOthersHandedIn, IsTakenIn, IsHandedOut, IsNoteHandedOut, IsTookHandedOut}
use Rattle.il_graph.proofs.Calling.{Found, at_some}

-- ---- a header that can be handed in is one of the client's

-- what is known of it
record IsKnown (header : BufferHeader) (l : Look) : Type 0 where
  key : header.key ≡ l.key
  state : HeaderState
  clients : IsClients l header.held.number state
  own : IsHeaderOf state header

known : (header : BufferHeader) (l : Look) → IsHandedIn header l → IsKnown header l
known header l H = let s = there_is (l.headers.header header.held.number) (λ s. (s.owner ≡ owners.Client) × IsHeaderOf s header) H.1 in record { key = H.0; state = s.0; clients = (s.1, s.2.0); own = s.2.1 }

handed_in : (header : BufferHeader) (l : Look) → IsKnown header l → IsHandedIn header l
handed_in header l K = (K.key, is_there (l.headers.header header.held.number) (λ s. (s.owner ≡ owners.Client) × IsHeaderOf s header) K.state K.clients.0 (K.clients.1, K.own))

-- it is with the client, whatever it carries
pub with_client_then : (header : BufferHeader) (l : Look) → IsHandedIn header l → IsWithClient header.held.number l
with_client_then header l H = let K = known header l H in is_there (l.headers.header header.held.number) (λ s. s.owner ≡ owners.Client) K.state K.clients.0 K.clients.1

-- what is known of a header that is with the client
clients_of : (number : ℕ) (l : Look) → IsWithClient number l → (s : HeaderState) × IsClients l number s
clients_of number l H = let s = there_is (l.headers.header number) (λ s. s.owner ≡ owners.Client) H in (s.0, (s.1, s.2))

with_client_of : (number : ℕ) (l : Look) (s : HeaderState) → IsClients l number s → IsWithClient number l
with_client_of number l s c = is_there (l.headers.header number) (λ s. s.owner ≡ owners.Client) s c.0 c.1

-- ---- which header an act takes in

not_freed : (h : Handle) (port n k : ℕ) (result : Result Bool OmxError) → k ≢ n → taken_in (acts.FreeBuffer h port n) (acts.Freed result) ≢ Some k
not_freed h port n k (Ok memory) a e = let q : n ≡ k = cc in a (sym q)
not_freed h port n k (Err error) a e = absurd cc

not_emptied : (h : Handle) (port k : ℕ) (header : Held) (result : Result (Unit {0}) OmxError) → k ≢ header.number → taken_in (acts.EmptyThisBuffer h port header) (acts.Plain result) ≢ Some k
not_emptied h port k header (Ok done) a e = let q : header.number ≡ k = cc in a (sym q)
not_emptied h port k header (Err error) a e = absurd cc

not_filled : (h : Handle) (port k : ℕ) (header : Held) (result : Result (Unit {0}) OmxError) → k ≢ header.number → taken_in (acts.FillThisBuffer h port header) (acts.Plain result) ≢ Some k
not_filled h port k header (Ok done) a e = let q : header.number ≡ k = cc in a (sym q)
not_filled h port k header (Err error) a e = absurd cc

module _ {C : Type 0} (progress : C → Progress) where
  -- ---- over a step

  key_over : (old new : Entries C) (a : Act) (r : Reply) → SoundWorld (kept progress old) → ((w : World) → StandsBare (kept progress old) w → HandsIn w a) → StepsBare (kept progress old) (kept progress new) (λ w v. Step w a r v) → (look_of new).key ≡ (look_of old).key
  key_over old new a r W M T =
      let w = W.world in
      let x = T w W.stands in
      sym (ap (λ (l : Look). l.key) x.1.looks) ∙ (key_after w a r x.0 W.sound (M w W.stands) x.2 ∙ ap (λ (l : Look). l.key) W.stands.looks)

  held_over : (old new : Entries C) (a : Act) (r : Reply) → SoundWorld (kept progress old) → ((w : World) → StandsBare (kept progress old) w → HandsIn w a) → StepsBare (kept progress old) (kept progress new) (λ w v. Step w a r v)
      → (header : BufferHeader) → taken_in a r ≢ Some header.held.number → IsHandedIn header (look_of old) → IsHandedIn header (look_of new)
  held_over old new a r W M T header n H =
      let w = W.world in
      let K = known header (look_of old) H in
      let x = T w W.stands in
      let before : IsClients (look w) header.held.number K.state = subst (λ (l : Look). IsClients l header.held.number K.state) (sym W.stands.looks) K.clients in
      let after = clients_after w a r x.0 header.held.number K.state W.sound (M w W.stands) x.2 before n in
      handed_in header (look_of new) (record { key = K.key ∙ sym (key_over old new a r W M T); state = K.state; clients = subst (λ (l : Look). IsClients l header.held.number K.state) x.1.looks after; own = K.own })

  -- an act that takes no header in
  pub stays_over : (old new : Entries C) (a : Act) (r : Reply) → taken_in a r ≡ None → ((w : World) → HandsIn w a) → SoundWorld (kept progress old) → StepsBare (kept progress old) (kept progress new) (λ w v. Step w a r v) → StayHandedIn (look_of old) (look_of new)
  stays_over old new a r none M W T = λ header H. held_over old new a r W (λ w S. M w) T header (λ e. let q : None ≡ Some header.held.number = sym none ∙ e in absurd cc) H

  -- a header comes only where the act gives it
  comes_over : (old new : Entries C) (a : Act) (r : Reply) → SoundWorld (kept progress old) → ((w : World) → StandsBare (kept progress old) w → HandsIn w a) → StepsBare (kept progress old) (kept progress new) (λ w v. Step w a r v)
      → (number : ℕ) → number_out a r ≢ Some number → IsWithClient number (look_of new) → IsWithClient number (look_of old)
  comes_over old new a r W M T number n H =
      let w = W.world in
      let x = T w W.stands in
      let s = clients_of number (look_of new) H in
      let after : IsClients (look x.0) number s.0 = subst (λ (l : Look). IsClients l number s.0) (sym x.1.looks) s.1 in
      let before = comes_to_client w a r x.0 number s.0 W.sound (M w W.stands) x.2 after n in
      with_client_of number (look_of old) s.0 (subst (λ (l : Look). IsClients l number s.0) W.stands.looks before)

  none_over : (old new : Entries C) (a : Act) (r : Reply) → number_out a r ≡ None → SoundWorld (kept progress old) → ((w : World) → StandsBare (kept progress old) w → HandsIn w a) → StepsBare (kept progress old) (kept progress new) (λ w v. Step w a r v) → NoneComes (look_of old) (look_of new)
  none_over old new a r none W M T = λ number H. comes_over old new a r W M T number (λ e. let q : None ≡ Some number = sym none ∙ e in absurd cc) H

  -- an act that takes no header in and gives none
  pub keeps_over : (old new : Entries C) (a : Act) (r : Reply) → taken_in a r ≡ None → number_out a r ≡ None → ((w : World) → HandsIn w a) → SoundWorld (kept progress old) → StepsBare (kept progress old) (kept progress new) (λ w v. Step w a r v) → KeepsHandedIn (look_of old) (look_of new)
  keeps_over old new a r taken given M W T = record { stay = stays_over old new a r taken M W T; come = none_over old new a r given W (λ w S. M w) T }

  -- the same by one world
  pub keeps_at : (old new : Entries C) (a : Act) (r : Reply) → taken_in a r ≡ None → number_out a r ≡ None → (w : World) → StandsBare (kept progress old) w → Sound w → HandsIn w a → (v : World) → StandsBare (kept progress new) v → Step w a r v
      → KeepsHandedIn (look_of old) (look_of new)
  keeps_at old new a r taken given w S sound M v T h = record {
    stay = λ header H.
        let K = known header (look_of old) H in
        let before : IsClients (look w) header.held.number K.state = subst (λ (l : Look). IsClients l header.held.number K.state) (sym S.looks) K.clients in
        let after = clients_after w a r v header.held.number K.state sound M h before (λ e. let q : None ≡ Some header.held.number = sym taken ∙ e in absurd cc) in
        let key : (look_of new).key ≡ (look_of old).key = sym (ap (λ (l : Look). l.key) T.looks) ∙ (key_after w a r v sound M h ∙ ap (λ (l : Look). l.key) S.looks) in
        handed_in header (look_of new) (record { key = K.key ∙ sym key; state = K.state; clients = subst (λ (l : Look). IsClients l header.held.number K.state) T.looks after; own = K.own });
    come = λ number H.
        let s = clients_of number (look_of new) H in
        let after : IsClients (look v) number s.0 = subst (λ (l : Look). IsClients l number s.0) (sym T.looks) s.1 in
        let before = comes_to_client w a r v number s.0 sound M h after (λ e. let q : None ≡ Some number = sym given ∙ e in absurd cc) in
        with_client_of number (look_of old) s.0 (subst (λ (l : Look). IsClients l number s.0) S.looks before);
  }

  taken_over : (old new : Entries C) (a : Act) (r : Reply) (header : BufferHeader) → taken_in a r ≡ Some header.held.number → SoundWorld (kept progress old) → ((w : World) → StandsBare (kept progress old) w → HandsIn w a) → StepsBare (kept progress old) (kept progress new) (λ w v. Step w a r v)
      → IsTakenIn header (look_of new)
  taken_over old new a r header taken W M T H =
      let w = W.world in
      let x = T w W.stands in
      let s = clients_of header.held.number (look_of new) H in
      let after : IsClients (look x.0) header.held.number s.0 = subst (λ (l : Look). IsClients l header.held.number s.0) (sym x.1.looks) s.1 in
      leaves_client w a r x.0 header.held.number s.0 W.sound (M w W.stands) x.2 taken after

  pub client_there : (g : Entries C) (header : BufferHeader) → IsHandedIn header (look_of g) → (w : World) → StandsBare (kept progress g) w → IsWithClient header.held.number (look w)
  client_there g header H w S = subst (IsWithClient header.held.number) (sym S.looks) (with_client_then header (look_of g) H)

  pub freed_over : (old new : Entries C) (h : Handle) (port : ℕ) (given : BufferHeader) (result : Result Bool OmxError) → IsHandedIn given (look_of old) → SoundWorld (kept progress old)
      → StepsBare (kept progress old) (kept progress new) (λ w v. Step w (acts.FreeBuffer h port given.held.number) (acts.Freed result) v) → KeepsOthersHandedIn given (look_of old) (look_of new)
  freed_over old new h port given result G W T = record {
    stay = λ header apart H. held_over old new (acts.FreeBuffer h port given.held.number) (acts.Freed result) W (client_there old given G) T header (not_freed h port given.held.number header.held.number result apart) H;
    come = none_over old new (acts.FreeBuffer h port given.held.number) (acts.Freed result) refl W (client_there old given G) T;
  }

  pub emptied_over : (old new : Entries C) (h : Handle) (port : ℕ) (given : BufferHeader) (result : Result (Unit {0}) OmxError) → IsHandedIn given (look_of old) → SoundWorld (kept progress old)
      → StepsBare (kept progress old) (kept progress new) (λ w v. Step w (acts.EmptyThisBuffer h port given.held) (acts.Plain result) v) → KeepsOthersHandedIn given (look_of old) (look_of new)
  emptied_over old new h port given result G W T = record {
    stay = λ header apart H. held_over old new (acts.EmptyThisBuffer h port given.held) (acts.Plain result) W (client_there old given G) T header (not_emptied h port header.held.number given.held result apart) H;
    come = none_over old new (acts.EmptyThisBuffer h port given.held) (acts.Plain result) refl W (client_there old given G) T;
  }

  pub filled_over : (old new : Entries C) (h : Handle) (port : ℕ) (given : BufferHeader) (result : Result (Unit {0}) OmxError) → IsHandedIn given (look_of old) → SoundWorld (kept progress old)
      → StepsBare (kept progress old) (kept progress new) (λ w v. Step w (acts.FillThisBuffer h port given.held) (acts.Plain result) v) → KeepsOthersHandedIn given (look_of old) (look_of new)
  filled_over old new h port given result G W T = record {
    stay = λ header apart H. held_over old new (acts.FillThisBuffer h port given.held) (acts.Plain result) W (client_there old given G) T header (not_filled h port header.held.number given.held result apart) H;
    come = none_over old new (acts.FillThisBuffer h port given.held) (acts.Plain result) refl W (client_there old given G) T;
  }

  pub freed_in : (old new : Entries C) (h : Handle) (port : ℕ) (given : BufferHeader) (memory : Bool) → IsHandedIn given (look_of old) → SoundWorld (kept progress old)
      → StepsBare (kept progress old) (kept progress new) (λ w v. Step w (acts.FreeBuffer h port given.held.number) (acts.Freed (Ok memory)) v) → IsTakenIn given (look_of new)
  freed_in old new h port given memory G W T = taken_over old new (acts.FreeBuffer h port given.held.number) (acts.Freed (Ok memory)) given refl W (client_there old given G) T

  pub emptied_in : (old new : Entries C) (h : Handle) (port : ℕ) (given : BufferHeader) → IsHandedIn given (look_of old) → SoundWorld (kept progress old)
      → StepsBare (kept progress old) (kept progress new) (λ w v. Step w (acts.EmptyThisBuffer h port given.held) (acts.Plain (Ok tt)) v) → IsTakenIn given (look_of new)
  emptied_in old new h port given G W T = taken_over old new (acts.EmptyThisBuffer h port given.held) (acts.Plain (Ok tt)) given refl W (client_there old given G) T

  pub filled_in : (old new : Entries C) (h : Handle) (port : ℕ) (given : BufferHeader) → IsHandedIn given (look_of old) → SoundWorld (kept progress old)
      → StepsBare (kept progress old) (kept progress new) (λ w v. Step w (acts.FillThisBuffer h port given.held) (acts.Plain (Ok tt)) v) → IsTakenIn given (look_of new)
  filled_in old new h port given G W T = taken_over old new (acts.FillThisBuffer h port given.held) (acts.Plain (Ok tt)) given refl W (client_there old given G) T

  -- nothing changed of what is kept
  pub keeps_alike : (old new : Entries C) → kept progress new ≡ kept progress old → KeepsHandedIn (look_of old) (look_of new)
  keeps_alike old new e = record { stay = λ header H. subst (λ (k : Kept). IsHandedIn header k.looks) (sym e) H; come = λ number H. subst (λ (k : Kept). IsWithClient number k.looks) e H }

  -- nothing changed
  pub stays_same : (g : Entries C) → StayHandedIn (look_of g) (look_of g)
  stays_same g = λ header H. H

  pub keeps_same : (g : Entries C) → KeepsHandedIn (look_of g) (look_of g)
  keeps_same g = record { stay = λ header H. H; come = λ number H. H }

  pub others_same : (g : Entries C) (given : BufferHeader) → KeepsOthersHandedIn given (look_of g) (look_of g)
  others_same g given = record { stay = λ header apart H. H; come = λ number H. H }

  -- ---- the stock stays, and then the close-out follows

  module _ (old middle new : Entries C) (same : middle.stock ≡ old.stock) (W : SoundWorld (kept progress middle)) (T : StepsBare (kept progress middle) (kept progress new) ClosesTo) where
    closes_with : (header : BufferHeader) → IsHandedIn header (look_of old) → IsHandedIn header (look_of new)
    closes_with header H =
        let w = W.world in
        let K = known header (look_of old) H in
        let x = T w W.stands in
        let there : IsClients (look_of middle) header.held.number K.state = subst (λ (s : StockKept). ((stocked s).headers.header header.held.number ≡ Some K.state) × (K.state.owner ≡ owners.Client)) (sym same) K.clients in
        let before : IsClients (look w) header.held.number K.state = subst (λ (l : Look). IsClients l header.held.number K.state) (sym W.stands.looks) there in
        let after = closing_clients w x.0 header.held.number K.state W.sound x.2 before in
        let own : (look_of new).key ≡ (look_of old).key = sym (ap (λ (l : Look). l.key) x.1.looks) ∙ (closing_key w x.0 x.2 ∙ (ap (λ (l : Look). l.key) W.stands.looks ∙ ap (λ (s : StockKept). (stocked s).key) same)) in
        handed_in header (look_of new) (record { key = K.key ∙ sym own; state = K.state; clients = subst (λ (l : Look). IsClients l header.held.number K.state) x.1.looks after; own = K.own })

    closes_back : NoneComes (look_of old) (look_of new)
    closes_back number H =
        let w = W.world in
        let x = T w W.stands in
        let s = clients_of number (look_of new) H in
        let after : IsClients (look x.0) number s.0 = subst (λ (l : Look). IsClients l number s.0) (sym x.1.looks) s.1 in
        let before : IsClients (look_of middle) number s.0 = subst (λ (l : Look). IsClients l number s.0) W.stands.looks (closing_comes w x.0 number s.0 W.sound x.2 after) in
        with_client_of number (look_of old) s.0 (subst (λ (k : StockKept). ((stocked k).headers.header number ≡ Some s.0) × (s.0.owner ≡ owners.Client)) same before)

    pub closes_over : KeepsHandedIn (look_of old) (look_of new)
    closes_over = record { stay = closes_with; come = closes_back }

  -- ---- what an act gives

  out_by : (old new : Entries C) (a : Act) (r : Reply) (header : BufferHeader) → header.key ≡ (look_of old).key → given_out a r ≡ Some header.held → ((w : World) → HandsIn w a)
      → ((w : World) → StandsBare (kept progress old) w → (s : HeaderState) → IsMadeBy w a header.held.number s → is_clients header.store ≡ s.client_memory)
      → SoundWorld (kept progress old) → StepsBare (kept progress old) (kept progress new) (λ w v. Step w a r v) → IsHandedOut (look_of old) (look_of new) header
  out_by old new a r header own given M memory W T =
      let w = W.world in
      let x = T w W.stands in
      let G = gives_after w a r x.0 header.held W.sound (M w) x.2 given in
      record {
        handed = handed_in header (look_of new) (record {
          key = own ∙ sym (key_over old new a r W (λ w S. M w) T);
          state = G.state;
          clients = subst (λ (l : Look). IsClients l header.held.number G.state) x.1.looks G.clients;
          own = record { size = G.size; memory = memory w W.stands G.state G.made };
        });
        other = λ before H same.
            let K = known before (look_of old) H in
            let k : IsClients (look_of old) header.held.number K.state = subst (λ (n : ℕ). IsClients (look_of old) n K.state) same K.clients in
            G.new K.state (subst (λ (l : Look). IsClients l header.held.number K.state) (sym W.stands.looks) k);
        come = λ number apart H. comes_over old new a r W (λ w S. M w) T number (λ e.
            let q : Some header.held.number ≡ Some number = sym (ap (option_map (λ (x : Held). x.number)) given) ∙ e in
            let is : header.held.number ≡ number = cc in
            apart (sym is)) H;
      }

  -- the key of a header that was made
  pub made_key : (g : Entries C) (h : Handle) (i port : ℕ) (header : BufferHeader) (F : Found progress g h i)
      → MatchOption (component_at i g) ⊥ (λ c. MatchOption (port_of c port) ⊥ (λ p. header ≡ fresh (look_of g).key (look_of g).made header.store p.setting.definition.size)) → header.key ≡ (look_of g).key
  made_key g h i port header F m =
      let a = at_some (λ c. MatchOption (port_of c port) ⊥ (λ p. header ≡ fresh (look_of g).key (look_of g).made header.store p.setting.definition.size)) (component_at i g) F.component F.at m in
      let p = there_is (port_of F.component port) (λ p. header ≡ fresh (look_of g).key (look_of g).made header.store p.setting.definition.size) a in
      ap (λ (x : BufferHeader). x.key) p.2

  pub allocated_out : (old new : Entries C) (h : Handle) (port : ℕ) (header : BufferHeader) → header.key ≡ (look_of old).key → is_clients header.store ≡ false → SoundWorld (kept progress old)
      → StepsBare (kept progress old) (kept progress new) (λ w v. Step w (acts.AllocateBuffer h port) (acts.Allocated (Ok header.held)) v) → IsHandedOut (look_of old) (look_of new) header
  allocated_out old new h port header own memory W T = out_by old new (acts.AllocateBuffer h port) (acts.Allocated (Ok header.held)) header own refl (λ w. tt) (λ w S s made. memory ∙ sym made) W T

  pub used_out : (old new : Entries C) (h : Handle) (port : ℕ) (bytes : List ℕ) (header : BufferHeader) → header.key ≡ (look_of old).key → is_clients header.store ≡ true → SoundWorld (kept progress old)
      → StepsBare (kept progress old) (kept progress new) (λ w v. Step w (acts.UseBuffer h port bytes) (acts.Used (Ok header.held)) v) → IsHandedOut (look_of old) (look_of new) header
  used_out old new h port bytes header own memory W T = out_by old new (acts.UseBuffer h port bytes) (acts.Used (Ok header.held)) header own refl (λ w. tt) (λ w S s made. memory ∙ sym made) W T

  -- ---- a header in a note

  -- the header in the note has the memory that the world knows of
  abbrev HasMemory : World → BufferHeader → Type 0
  HasMemory w header = AtHeader header.held.number w (λ r. (held r ≡ header.held) × (r.state.client_memory ≡ is_clients header.store))

  taken_memory : (w : World) (o : Option HeaderRecord) (s : HeaderState) (header : BufferHeader) → MatchOption o ⊥ (λ r. (held r ≡ header.held) × (r.state.client_memory ≡ is_clients header.store))
      → MatchOption (option_map state_of o) ⊥ (λ was. s ≡ state_given owners.Client was) → is_clients header.store ≡ s.client_memory
  taken_memory w None s header a b = absurd a
  taken_memory w (Some r) s header a b = sym a.1 ∙ ap (λ (x : HeaderState). x.client_memory) (sym b)

  note_out : (old new : Entries C) (h : Handle) (header : BufferHeader) (took : Took C) → given_out (acts.TakeNote h) (acts.Took (Ok (took_of took))) ≡ Some header.held → ((w : World) → StandsBare (kept progress old) w → header.key ≡ w.key) → ((w : World) → StandsBare (kept progress old) w → HasMemory w header)
      → SoundWorld (kept progress old) → StepsBare (kept progress old) (kept progress new) (λ w v. Step w (acts.TakeNote h) (acts.Took (Ok (took_of took))) v) → IsHandedOut (look_of old) (look_of new) header
  note_out old new h header took given own memory W T = out_by old new (acts.TakeNote h) (acts.Took (Ok (took_of took))) header (own W.world W.stands ∙ ap (λ (l : Look). l.key) W.stands.looks) given (λ w. tt)
      (λ w S s made. taken_memory w (find_header header.held.number w.headers) s header (memory w S) made) W T

  call_out : (old middle new : Entries C) (h : Handle) (i : ℕ) (c : Component) (call : Call C) (taken : Taken) → call.taken ≡ taken → StepsBare (kept progress old) (kept progress middle) (λ w v. Takes w i c (tooks.Call call) v)
      → SoundWorld (kept progress old) → StepsBare (kept progress old) (kept progress new) (λ w v. Step w (acts.TakeNote h) (acts.Took (Ok (took_of (tooks.Call call)))) v) → IsNoteHandedOut (look_of old) (look_of new) taken
  call_out old middle new h i c call (Told event) is s W T = none_over old new (acts.TakeNote h) (acts.Took (Ok (took_of (tooks.Call call)))) (rw is refl) W (λ w S. tt) T
  call_out old middle new h i c call (EmptyDone header) is s W T =
      let said : (w : World) (S : StandsBare (kept progress old) w) → TakesNote w i c (EmptyDone header) (s w S).0 = λ w S. subst (λ (t : Taken). TakesNote w i c t (s w S).0) is (s w S).2.1 in
      note_out old new h header (tooks.Call call) (rw is refl) (λ w S. (said w S).3) (λ w S. (said w S).1) W T
  call_out old middle new h i c call (FillDone header) is s W T =
      let said : (w : World) (S : StandsBare (kept progress old) w) → TakesNote w i c (FillDone header) (s w S).0 = λ w S. subst (λ (t : Taken). TakesNote w i c t (s w S).0) is (s w S).2.1 in
      note_out old new h header (tooks.Call call) (rw is refl) (λ w S. (said w S).3) (λ w S. (said w S).1) W T

  took_out_of : (old middle new : Entries C) (h : Handle) (i : ℕ) (c : Component) (took : Took C) → StepsBare (kept progress old) (kept progress middle) (λ w v. Takes w i c took v)
      → SoundWorld (kept progress old) → StepsBare (kept progress old) (kept progress new) (λ w v. Step w (acts.TakeNote h) (acts.Took (Ok (took_of took))) v) → IsTookHandedOut (look_of old) (look_of new) took
  took_out_of old middle new h i c tooks.Busy s W T = let none : Took C = tooks.Busy in none_over old new (acts.TakeNote h) (acts.Took (Ok (took_of none))) refl W (λ w S. tt) T
  took_out_of old middle new h i c tooks.None s W T = let none : Took C = tooks.None in none_over old new (acts.TakeNote h) (acts.Took (Ok (took_of none))) refl W (λ w S. tt) T
  took_out_of old middle new h i c (tooks.Call call) s W T = call_out old middle new h i c call call.taken refl s W T

  pub took_out : (old middle new : Entries C) (h : Handle) (i : ℕ) (took : Took C) (F : Found progress old h i) → MatchOption (component_at i old) ⊥ (λ c. StepsBare (kept progress old) (kept progress middle) (λ w v. Takes w i c took v))
      → SoundWorld (kept progress old) → StepsBare (kept progress old) (kept progress new) (λ w v. Step w (acts.TakeNote h) (acts.Took (Ok (took_of took))) v) → IsTookHandedOut (look_of old) (look_of new) took
  took_out old middle new h i took F s W T =
      let t : StepsBare (kept progress old) (kept progress middle) (λ w v. Takes w i F.component took v) = rw F.at at s in
      took_out_of old middle new h i F.component took t W T
