-- A component of a name is made.
use Rattle.std.proofs.Common.{◌≡◌, ℕ, Bool, true, false, List, [], ◌∷◌, Option, Some, None, Result, Ok, Err, MatchOption, IsOkAnd, refl, sym, ◌∙◌, ap}
use Rattle.omx_types.specs.declared.handle.Handle.{Handle}
use Rattle.omx_types.specs.declared.kind.Kind.{Kind}
use Rattle.omx_types.specs.declared.error.OmxError.{OmxError}
use Rattle.omx_types.specs.declared.error.OmxError.TheVariants as errors
use Rattle.omx_types.specs.declared.error.CallError.TheVariants.{Omx, OutOfMemory}
use Rattle.il_machine.specs.Lists.{first_of_these}
use Rattle.il_machine.specs.Kinds.{kind_of}
use Rattle.il_machine.specs.World.{World}
use Rattle.il_machine.specs.Look.{Look}
use Rattle.il_machine.specs.Due.{ClosesTo}
use Rattle.il_machine.specs.Components.{GetHandle, name_refusals, is_full, is_vacant, get_handle_refusal, with_new_component}
use Rattle.il_machine.specs.Whole.{Kept}
use Rattle.stock_laws.specs.Bare.{StepsBare}
use Rattle.il_machine.proofs.Refusals.{first_of_first, first_of_second}
use Rattle.stock_laws.proofs.Answering.{refused_or_memory, wants_memory, accepted_or_memory, then_closes}

-- ---- a name is found, or refused

abbrev pub Found : List ℕ → Result Kind OmxError → Option OmxError → Type 0
Found name result refusal = MatchOption refusal (IsOkAnd result (λ kind. kind_of name ≡ Some kind)) (λ error. result ≡ Err error)

pub found_kind : (name : List ℕ) (kind : Kind) (o : Option OmxError) → Found name (Ok kind) o → (o ≡ None) × (kind_of name ≡ Some kind)
found_kind name kind None f = (refl, f)
found_kind name kind (Some error) f = absurd cc

pub found_error : (name : List ℕ) (error : OmxError) (o : Option OmxError) → Found name (Err error) o → o ≡ Some error
found_error name error None f = absurd f
found_error name error (Some e) f = let s : error ≡ e = cc in rw s refl

-- ---- the outcomes

refused_name : (l : Look) (name : List ℕ) (error : OmxError) → first_of_these (name_refusals name) ≡ Some error → get_handle_refusal l name ≡ Some error
refused_name l name error r = first_of_first (name_refusals name) ((is_full l, errors.InsufficientResources) ∷ []) error r

full_or_none : (l : Look) (name : List ℕ) (full : Bool) → first_of_these (name_refusals name) ≡ None → full ≡ is_full l → get_handle_refusal l name ≡ first_of_these ((full, errors.InsufficientResources) ∷ [])
full_or_none l name full n f = rw f (first_of_second (name_refusals name) ((is_full l, errors.InsufficientResources) ∷ []) n)

abbrev pub Handled : List ℕ → World → World → Handle → Type 0
Handled name w v h = (h.generation ≡ w.numbered) × (is_vacant h.slot w.components ≡ true)
    × MatchOption (kind_of name) ⊥ (λ kind. ClosesTo (with_new_component h kind w) v)

pub name_refused : (k : Kept) (name : List ℕ) (error : OmxError) → first_of_these (name_refusals name) ≡ Some error → StepsBare k k (λ w v. GetHandle w name (Err (Omx error)) v)
name_refused k name error r = refused_or_memory k (λ l. get_handle_refusal l name) error (Handled name) (refused_name k.looks name error r)

pub full_refused : (k : Kept) (name : List ℕ) → first_of_these (name_refusals name) ≡ None → true ≡ is_full k.looks → StepsBare k k (λ w v. GetHandle w name (Err (Omx errors.InsufficientResources)) v)
full_refused k name n f = refused_or_memory k (λ l. get_handle_refusal l name) errors.InsufficientResources (Handled name) (full_or_none k.looks name true n f)

pub memory_wanted : (k : Kept) (name : List ℕ) → first_of_these (name_refusals name) ≡ None → false ≡ is_full k.looks → StepsBare k k (λ w v. GetHandle w name (Err OutOfMemory) v)
memory_wanted k name n f = wants_memory k (λ l. get_handle_refusal l name) (Handled name) (full_or_none k.looks name false n f)

pub made : (k m n : Kept) (name : List ℕ) (kind : Kind) (h : Handle) → first_of_these (name_refusals name) ≡ None → kind_of name ≡ Some kind → false ≡ is_full k.looks
    → h.generation ≡ k.looks.numbered → is_vacant h.slot k.looks.components ≡ true → StepsBare k m (λ w v. v ≡ with_new_component h kind w) → StepsBare m n ClosesTo → StepsBare k n (λ w v. GetHandle w name (Ok h) v)
made k m n name kind h r q f e vacant s closes = accepted_or_memory k n (λ l. get_handle_refusal l name) h (Handled name) (full_or_none k.looks name false r f)
    (λ w S.
    let y = then_closes k m n (with_new_component h kind) s closes w S in
    let a : h.generation ≡ w.numbered = e ∙ sym (ap (λ (l : Look). l.numbered) S.looks) in
    let b : is_vacant h.slot w.components ≡ true = ap (λ (l : Look). is_vacant h.slot l.components) S.looks ∙ vacant in
    (y.0, y.1, (a, b, rw q y.2)))
