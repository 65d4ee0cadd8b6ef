-- The names that two files of proofs cite, passed on from one place. Declares nothing.
pub use Rattle.memchr.specs.Find.{Passes, is_byte, Nowhere}
pub use Rattle.std.proofs.Common.{Bool, length, length-drop, slice_index, append_assoc, append-nil, get_or, true}
pub use Rattle.std.proofs.Common.{cond, Some, false, eq-eqb, rules, subst, Option, arith, Result, ◌≢◌, eqb, ◌^◌, not}
pub use Rattle.std.proofs.Common.{◌+◌, sym, map, take, ◌++◌, drop, List, refl, ℕ, ap, [], ◌∙◌, ◌∷◌, ◌-◌, ◌≤◌, inr}
pub use Rattle.std.proofs.Common.{◌<◌, ◌≡◌, inl, Ok, Err}
pub use Rattle.std.proofs.KnownBytes.{Appends-kept, Appends-trans}
pub use Rattle.std.proofs.lemmas.Bool.{eqb-true, cases_eq}
pub use Rattle.std.proofs.lemmas.List.{drop-drop, take-append-drop, take_at, take_all, take_rest}
pub use Rattle.std.proofs.lemmas.List.Elements.{All-nil, All-append}
pub use Rattle.std.proofs.lemmas.Simd.{length-chunk}
pub use Rattle.std.proofs.lemmas.Slice.{between_is}
pub use Rattle.std.specs.Io.KnownBytes.{Keeps}
pub use Rattle.std.specs.Prelude.{count_by}
pub use Rattle.syslog_lines.specs.Block.{held_bytes}
pub use Rattle.syslog_lines.specs.Count.{held_count}
pub use Rattle.syslog_lines.specs.Lines.{NoFeed, IsLines, EndsInFeed, IsFirstLine}
pub use Rattle.syslog_lines.specs.Output.{Filter, is_answered, is_skipped, output_of, HasCounted}
pub use Rattle.syslog_lines.specs.Write.{Adds, AddsWhole, Answered, WroteBefore, WroteCut, Wrote}
pub use Rattle.syslog_lines.specs.declared.summary.RunFault.{RunFault}
pub use Rattle.syslog_lines.specs.declared.summary.RunFault.TheVariants.{Write, Memory}
pub use Rattle.syslog_lines.specs.declared.summary.Tally.{Tally}
