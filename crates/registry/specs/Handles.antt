-- What a contract sees of a registry: what stands in each slot, and how many handles were given.
use Rattle.std.specs.Prelude.{◌≡◌, ℕ, ◌+◌, ◌<◌, Bool, ◌||◌, nat_eq, nat_le, List, [], count_by, Option, Some, None, is_some, option_and_then, IsSome, slice_index_or, if◌then◌else◌, refl}
use Rattle.std.specs.Coded.{Coded, code_by, coded×, coded_ℕ, coded_list, coded_option}
use Rattle.omx_types.specs.declared.handle.Handle.{Handle}
use Rattle.registry.specs.declared.entry.Entry.{Entry}
use Rattle.il_machine.specs.World.{same_handle}

pub record Handles (T : Type 0) : Type 0 where
  pub slots : List (Option (Entry T))
  -- how many handles were given, which is the generation of the next
  pub given : ℕ

abbrev pub entry_code : {T : Type 0} → Coded T → Coded (Entry T)
entry_code {T} code = code_by (ℕ × T) (coded× coded_ℕ code) (λ e. (e.generation, e.value)) (λ p. record { generation = p.0; value = p.1 }) (λ _. refl)

abbrev pub handles_code : {T : Type 0} → Coded T → Coded (Handles T)
handles_code {T} code =
    code_by (List (Option (Entry T)) × ℕ) (coded× (coded_list (coded_option (entry_code code))) coded_ℕ)
    (λ r. (r.slots, r.given)) (λ p. record { slots = p.0; given = p.1 }) (λ _. refl)

module _ {T : Type 0} where
  abbrev pub entry_at : Handles T → ℕ → Option (Entry T)
  entry_at r slot = slice_index_or r.slots slot None

  abbrev pub value_for : ℕ → Entry T → Option T
  value_for generation e = if nat_eq e.generation generation then Some e.value else None

  -- the value of the handle: the slot isn't vacant, and its generation is the handle's
  abbrev pub resolved : Handles T → Handle → Option T
  resolved r h = option_and_then (value_for h.generation) (entry_at r h.slot)

  -- how many handles are live
  abbrev pub live : Handles T → ℕ
  live r = count_by is_some r.slots

  -- 32 handles are live, or the last generation is reached
  abbrev pub is_full : Handles T → Bool
  is_full r = nat_le 32 (live r) || nat_eq r.given 18446744073709551615

  -- each live handle was given before
  abbrev pub AllGiven : Handles T → Type 0
  AllGiven r = (h : Handle) → IsSome (resolved r h) → h.generation < r.given

  -- the handle is given, in a slot that was vacant
  pub record Gives (old new : Handles T) (h : Handle) (value : T) : Type 0 where
    pub generation : h.generation ≡ old.given
    pub vacant : entry_at old h.slot ≡ None
    pub resolves : (k : Handle) → resolved new k ≡ (if same_handle k h then Some value else resolved old k)
    pub given : new.given ≡ old.given + 1
    pub live : live new ≡ live old + 1

  -- the handle doesn't resolve any more, and every other one does as before
  pub record Removes (old new : Handles T) (h : Handle) : Type 0 where
    pub resolves : (k : Handle) → resolved new k ≡ (if same_handle k h then None else resolved old k)
    pub given : new.given ≡ old.given
    pub live : live new + 1 ≡ live old

  -- the handle has another value, and every other one is as before
  pub record Sets (old new : Handles T) (h : Handle) (value : T) : Type 0 where
    pub resolves : (k : Handle) → resolved new k ≡ (if same_handle k h then Some value else resolved old k)
    pub given : new.given ≡ old.given
    pub live : live new ≡ live old

abbrev pub no_handles : {T : Type 0} → Handles T
no_handles = record { slots = []; given = 0 }
