-- Calls on headers of client ports are steps of each world that the graph stands for.
use Rattle.std.proofs.Common.{◌≡◌, ℕ, Bool, List, Option, Some, None, option_map, is_some, Ok, Err, MatchOption, refl, sym, ◌∙◌, ap}
use Rattle.omx_types.specs.declared.handle.Handle.{Handle}
use Rattle.omx_types.specs.declared.error.OmxError.{OmxError}
use Rattle.omx_types.specs.declared.error.OmxError.TheVariants as errors
use Rattle.omx_types.specs.declared.error.CallError.{CallError}
use Rattle.omx_types.specs.declared.error.CallError.TheVariants.{Omx}
use Rattle.il_machine.specs.declared.answer.Progress.{Progress}
use Rattle.il_machine.specs.declared.header.HeaderState.{HeaderState}
use Rattle.il_machine.specs.declared.port.Port.{Port}
use Rattle.il_machine.specs.World.{Component, World, port_of}
use Rattle.il_machine.specs.Headers.{empty_load}
use Rattle.il_machine.specs.Look.{Look, look}
use Rattle.il_machine.specs.Due.{ClosesTo}
use Rattle.il_machine.specs.Answers.{plain, Resolving, Answers, AnswersAs}
use Rattle.il_machine.specs.Buffers.{AtState, AtPort, client_header, held_of}
use Rattle.stock_laws.specs.Bare.{StepsBare, StandsBare}
use Rattle.stock_laws.proofs.Answering.{unresolved, resolved, refused, accepted, refused_as, accepted_as, then_closes, at_state}
use Rattle.header_core.specs.declared.memory.Store.{Store}
use Rattle.header_core.specs.declared.memory.Store.TheVariants.{Own, Region}
use Rattle.header_core.specs.BufferHeader.{BufferHeader, is_clients, own_memory, empty_held, fresh}
use Rattle.graph_core.specs.Entries.{Entries, look_of, kept, component_at, entry_place}
use Rattle.graph_core.proofs.Replacing.{entry_place_is}
use Rattle.il_graph.proofs.Calling.{Found, at_some}

pub there_is_one : {A : Type 0} (P : A → Type 0) (o : Option A) → MatchOption o ⊥ P → (x : A) × (o ≡ Some x) × P x
there_is_one P None m = absurd m
there_is_one P (Some x) m = (x, refl, m)

-- ---- memory that goes back

mapped : {A B : Type 0} (f : A → B) (o : Option A) → is_some (option_map f o) ≡ is_some o
mapped f None = refl
mapped f (Some x) = refl

owned : (store : Store) → is_some (own_memory store) ≡ is_clients store
owned (Own bytes) = refl
owned (Region block) = refl

pub goes_back : {B : Type 0} (items : B → List ℕ) (memory : Option B) (back : Option (List ℕ)) (own b : Bool) → option_map items memory ≡ back → is_some back ≡ own → own ≡ b → is_some memory ≡ b
goes_back items memory back own b e o f = sym (mapped items memory) ∙ ap is_some e ∙ o ∙ f

pub clients_of : (store : Store) (memory : Option (List ℕ)) → own_memory store ≡ memory → is_clients store ≡ is_some memory
clients_of store memory e = sym (owned store) ∙ ap is_some e

module _ {C : Type 0} (progress : C → Progress) where
  -- ---- a change at a port, and the close-out

  closes_on : (g m k : Entries C) (o : Option Port) (After : Port → World → World) → MatchOption o ⊥ (λ p. StepsBare (kept progress g) (kept progress m) (λ w v. v ≡ After p w))
      → StepsBare (kept progress m) (kept progress k) ClosesTo → StepsBare (kept progress g) (kept progress k) (λ w v. AtPort o (λ p. ClosesTo (After p w) v))
  closes_on g m k None After s closes = absurd s
  closes_on g m k (Some p) After s closes = then_closes (kept progress g) (kept progress m) (kept progress k) (After p) s closes

  pub changed_on : (g m k : Entries C) (h : Handle) (i port : ℕ) (After : Component → Port → World → World) (F : Found progress g h i)
      → MatchOption (component_at i g) ⊥ (λ c. MatchOption (port_of c port) ⊥ (λ p. StepsBare (kept progress g) (kept progress m) (λ w v. v ≡ After c p w)))
      → StepsBare (kept progress m) (kept progress k) ClosesTo
      → StepsBare (kept progress g) (kept progress k) (λ w v. AtPort (port_of F.component port) (λ p. ClosesTo (After F.component p w) v))
  changed_on g m k h i port After F s closes = closes_on g m k (port_of F.component port) (After F.component)
      (at_some (λ c. MatchOption (port_of c port) ⊥ (λ p. StepsBare (kept progress g) (kept progress m) (λ w v. v ≡ After c p w))) (component_at i g) F.component F.at s) closes

  -- what else is true at the port
  pub and_said : (g k : Entries C) (o : Option Port) (B : World → Port → Type 0) (X : World → World → Port → Type 0) → ((w : World) → StandsBare (kept progress g) w → MatchOption o ⊥ (B w))
      → StepsBare (kept progress g) (kept progress k) (λ w v. AtPort o (X w v)) → StepsBare (kept progress g) (kept progress k) (λ w v. AtPort o (λ p. B w p × X w v p))
  and_said g k None B X b s = λ w S. absurd (b w S)
  and_said g k (Some p) B X b s = λ w S. let y = s w S in (y.0, y.1, (b w S, y.2))

  -- the same of what doesn't speak of the world or the port
  pub and_true : (g k : Entries C) (o : Option Port) (B : Type 0) (X : World → World → Port → Type 0) → B
      → StepsBare (kept progress g) (kept progress k) (λ w v. AtPort o (X w v)) → StepsBare (kept progress g) (kept progress k) (λ w v. AtPort o (λ p. B × X w v p))
  and_true g k None B X b s = s
  and_true g k (Some p) B X b s = λ w S. let y = s w S in (y.0, y.1, (b, y.2))

  -- ---- calls that are given a header

  module _ {T : Type 0} (R : Component → HeaderState → Option OmxError) where
    pub refused_with : (g : Entries C) (h : Handle) (i n : ℕ) (s : HeaderState) (error : OmxError) (Y : World → World → ℕ → Component → HeaderState → T → Type 0) → Found progress g h i
        → (look_of g).headers.header n ≡ Some s
        → MatchOption (component_at i g) ⊥ (λ c. AtState n (look_of g) (λ s. Some error ≡ R c s))
        → StepsBare (kept progress g) (kept progress g) (λ w v. Resolving {T = T} plain w h (Err error) v (λ j c. AtState n (look w) (λ s. Answers (R c s) (Err error) w v (Y w v j c s))))
    refused_with g h i n s error Y F e m =
        let a = at_some (λ c. AtState n (look_of g) (λ s. Some error ≡ R c s)) (component_at i g) F.component F.at m in
        let r : Some error ≡ R F.component s = at_some (λ s. Some error ≡ R F.component s) ((look_of g).headers.header n) s e a in
        resolved plain (kept progress g) (kept progress g) h i F.component (Err error) (λ w v j c. AtState n (look w) (λ s. Answers (R c s) (Err error) w v (Y w v j c s))) F.place F.at
        (at_state (kept progress g) (kept progress g) n s (λ w v s. Answers (R F.component s) (Err error) w v (Y w v i F.component s)) e
        (refused (kept progress g) (λ l. R F.component s) error (λ w v. Y w v i F.component s) (sym r)))

    pub done_with : (g k : Entries C) (h : Handle) (i n : ℕ) (s : HeaderState) (x : T) (Y : World → World → ℕ → Component → HeaderState → T → Type 0) (F : Found progress g h i)
        → (look_of g).headers.header n ≡ Some s
        → MatchOption (component_at i g) ⊥ (λ c. AtState n (look_of g) (λ s. None ≡ R c s))
        → StepsBare (kept progress g) (kept progress k) (λ w v. Y w v i F.component s x)
        → StepsBare (kept progress g) (kept progress k) (λ w v. Resolving plain w h (Ok x) v (λ j c. AtState n (look w) (λ s. Answers (R c s) (Ok x) w v (Y w v j c s))))
    done_with g k h i n s x Y F e m y =
        let a = at_some (λ c. AtState n (look_of g) (λ s. None ≡ R c s)) (component_at i g) F.component F.at m in
        let r : None ≡ R F.component s = at_some (λ s. None ≡ R F.component s) ((look_of g).headers.header n) s e a in
        resolved plain (kept progress g) (kept progress k) h i F.component (Ok x) (λ w v j c. AtState n (look w) (λ s. Answers (R c s) (Ok x) w v (Y w v j c s))) F.place F.at
        (at_state (kept progress g) (kept progress k) n s (λ w v s. Answers (R F.component s) (Ok x) w v (Y w v i F.component s)) e
        (accepted (kept progress g) (kept progress k) (λ l. R F.component s) x (λ w v. Y w v i F.component s) (sym r) y))

  -- ---- calls that make a header

  made_at : (g : Entries C) (o : Option Port) (header : BufferHeader) (memory : Option (List ℕ)) (b : Bool) → own_memory header.store ≡ memory → MatchOption o ⊥ (λ p. header ≡ fresh (look_of g).key (look_of g).made header.store p.setting.definition.size)
      → (w : World) → StandsBare (kept progress g) w → MatchOption o ⊥ (λ p. header.held ≡ held_of (client_header w.made p b) (empty_load memory))
  made_at g None header memory b e m = λ w S. absurd m
  made_at g (Some p) header memory b e m = λ w S.
      ap (λ x. x.held) m ∙ (ap (λ n. empty_held n p.setting.definition.size (own_memory header.store)) (sym (ap (λ (l : Look). l.made) S.looks)) ∙ ap (λ (x : Option (List ℕ)). empty_held w.made p.setting.definition.size x) e)

  pub made_header : (g : Entries C) (h : Handle) (i port : ℕ) (header : BufferHeader) (memory : Option (List ℕ)) (b : Bool) (F : Found progress g h i) → own_memory header.store ≡ memory
      → MatchOption (component_at i g) ⊥ (λ c. MatchOption (port_of c port) ⊥ (λ p. header ≡ fresh (look_of g).key (look_of g).made header.store p.setting.definition.size))
      → (w : World) → StandsBare (kept progress g) w → MatchOption (port_of F.component port) ⊥ (λ p. header.held ≡ held_of (client_header w.made p b) (empty_load memory))
  made_header g h i port header memory b F e m = made_at g (port_of F.component port) header memory b e
      (at_some (λ c. MatchOption (port_of c port) ⊥ (λ p. header ≡ fresh (look_of g).key (look_of g).made header.store p.setting.definition.size)) (component_at i g) F.component F.at m)

  module _ {T : Type 0} (R : Look → Component → Option OmxError) where
    pub done_at : (g k : Entries C) (h : Handle) (i : ℕ) (x : T) (Y : World → World → ℕ → Component → T → Type 0) (F : Found progress g h i)
        → MatchOption (component_at i g) ⊥ (λ c. None ≡ R (look_of g) c)
        → StepsBare (kept progress g) (kept progress k) (λ w v. Y w v i F.component x)
        → StepsBare (kept progress g) (kept progress k) (λ w v. Resolving plain w h (Ok x) v (λ j c. Answers (R (look w) c) (Ok x) w v (Y w v j c)))
    done_at g k h i x Y F m y =
        let r = at_some (λ c. None ≡ R (look_of g) c) (component_at i g) F.component F.at m in
        resolved plain (kept progress g) (kept progress k) h i F.component (Ok x) (λ w v j c. Answers (R (look w) c) (Ok x) w v (Y w v j c)) F.place F.at
        (accepted (kept progress g) (kept progress k) (λ l. R l F.component) x (λ w v. Y w v i F.component) (sym r) y)

    -- ---- the same of a call with errors of other causes

    pub refused_by : (g : Entries C) (h : Handle) (i : ℕ) (error : OmxError) (Y : World → World → ℕ → Component → T → Type 0) → Found progress g h i
        → MatchOption (component_at i g) ⊥ (λ c. Some error ≡ R (look_of g) c)
        → StepsBare (kept progress g) (kept progress g) (λ w v. Resolving {T = T} Omx w h (Err (Omx error)) v (λ j c. AnswersAs Omx (R (look w) c) (Err (Omx error)) w v (Y w v j c)))
    refused_by g h i error Y F m =
        let r = at_some (λ c. Some error ≡ R (look_of g) c) (component_at i g) F.component F.at m in
        resolved Omx (kept progress g) (kept progress g) h i F.component (Err (Omx error)) (λ w v j c. AnswersAs Omx (R (look w) c) (Err (Omx error)) w v (Y w v j c)) F.place F.at
        (refused_as Omx (kept progress g) (λ l. R l F.component) error (λ w v. Y w v i F.component) (sym r))

    pub done_by : (g k : Entries C) (h : Handle) (i : ℕ) (x : T) (Y : World → World → ℕ → Component → T → Type 0) (F : Found progress g h i)
        → MatchOption (component_at i g) ⊥ (λ c. None ≡ R (look_of g) c)
        → StepsBare (kept progress g) (kept progress k) (λ w v. Y w v i F.component x)
        → StepsBare (kept progress g) (kept progress k) (λ w v. Resolving Omx w h (Ok x) v (λ j c. AnswersAs Omx (R (look w) c) (Ok x) w v (Y w v j c)))
    done_by g k h i x Y F m y =
        let r = at_some (λ c. None ≡ R (look_of g) c) (component_at i g) F.component F.at m in
        resolved Omx (kept progress g) (kept progress k) h i F.component (Ok x) (λ w v j c. AnswersAs Omx (R (look w) c) (Ok x) w v (Y w v j c)) F.place F.at
        (accepted_as Omx (kept progress g) (kept progress k) (λ l. R l F.component) x (λ w v. Y w v i F.component) (sym r) y)

  pub not_found_by : (T : Type 0) (g : Entries C) (h : Handle) (X : World → World → ℕ → Component → Type 0) → None ≡ entry_place h g.entries
      → StepsBare (kept progress g) (kept progress g) (λ w v. Resolving {T = T} Omx w h (Err (Omx errors.InvalidComponent)) v (X w v))
  not_found_by T g h X e = unresolved T CallError Omx (kept progress g) h X (entry_place_is h g.entries ∙ sym e)
