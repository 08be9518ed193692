-- Any number of changes, one after another, and what stays true of a handle that doesn't resolve.
use Rattle.std.specs.Prelude.{◌≡◌, ℕ, zero, suc, ◌<◌, ◌⊎◌, None, IsSome}
use Rattle.omx_types.specs.declared.handle.Handle.{Handle}
use Rattle.registry.specs.Handles.{Handles, resolved, Gives, Removes, Sets}

module _ {T : Type 0} where
  -- a handle is given, or taken back, or has another value
  abbrev pub Changes : Handles T → Handles T → Type 0
  Changes old new = ((h : Handle) × (value : T) × Gives old new h value)
      ⊎ (((h : Handle) × Removes old new h)
      ⊎ ((h : Handle) × (value : T) × IsSome (resolved old h) × Sets old new h value))

  abbrev pub ChangesTimes : ℕ → Handles T → Handles T → Type 0
  ChangesTimes zero old new = new ≡ old
  ChangesTimes (suc n) old new = (mid : Handles T) × ChangesTimes n old mid × Changes mid new

  -- The handle was given before, and doesn't resolve.
  pub record IsStale (r : Handles T) (h : Handle) : Type 0 where
    pub given : h.generation < r.given
    pub gone : resolved r h ≡ None
