-- The names that the walks of the places cite.
pub use Rattle.std.proofs.Common.{◌≡◌, List, [], ◌∷◌, refl, lit<}
pub use Rattle.std.proofs.Handle.{heap_val, heap_Tells}
pub use Rattle.std.proofs.raw_atomic.Walks.{proved, leaves}
pub use Rattle.std.specs.Prelude.{None, Option, Some, IsSome}
pub use Rattle.std.specs.contracts.impls.GlobalAllocator.TheImpl.{ghosts}
pub use mir.Val.{Val}
pub use base.Logic.{emp}
pub use base.Fml.{ftrue}
pub use contract.Monad.{fact, fact_i}
pub use types.Kit.{‵, raw, ◌⊛◌, ◌$◌, ◌∵◌, !, qed, by, move, keep, drop, use0, split, fsplit, fjoin, fpack, feq_i, rewrite}
pub use types.Run.{enter, of_opd, lit, fld, stop, and_then, no_more, returns}
pub use types.ByLocal.{alloc_all, pass_all, free_all, look_at, get, get_in, sets}
pub use types.Part.{agg, sub, whole}
pub use denote.Builtin.{RawPtr}
pub use denote.Exit.{yes}
pub use denote.RattleType.{RattleType, Valss, owns}
pub use denote.RawPtr.{Ptr, null_ptr, ptr_val}
pub use denote.Signature.{plain, types_at}
pub use denote.Steps.{nothing, heard}
pub use denote.Struct.Owning.{shape}
pub use denote.Struct.Struct.{within}
pub use denote.Triple.Entry.{on_entry}
pub use denote.Triple.Walked.{walk_of, Stays, stay_dropped, Goes-dropped}
