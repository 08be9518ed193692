-- What a registry ends as, where a `&mut` to one of its values is returned.
use Rattle.std.specs.Prelude.{Some, Result, slice_set}
use Rattle.std.specs.Borrow.{LendsIfOk, Fml, RattleType, MutBor}
use Rattle.omx_types.specs.declared.handle.Handle.{Handle}
use Rattle.omx_types.specs.declared.error.OmxError.{OmxError}
use Rattle.registry.specs.Handles.{Handles}
use Rattle.registry.specs.contracts.handles.Registry.{the_row}

abbrev pub with_value : {T : Type 0} → Handles T → Handle → T → Handles T
with_value r h value = record r { slots = slice_set r.slots h.slot (Some (record { generation = h.generation; value = value })) }

module _ (T : RattleType) (s : MutBor (Handles T.Denot)) (h : Handle) where
  -- once the borrow r ends, the handle has the last value written through r; at `Err` the registry stays as it is
  abbrev pub lends_resolved : Result (MutBor T.Denot) OmxError → Fml
  lends_resolved r = LendsIfOk (the_row T) T s r (with_value s.now h) s.now
