-- The words of every proof, passed on from the kit under one name: numbers, equations, truth values, lists, their laws, and the rulesets of `omega`
-- and `search`.
pub use Prim.Native.Nat.{ℕ, ◌≤◌, ◌<◌, ◌+◌, ◌-◌, ◌*◌, suc, ◌^◌, zero, ◌/◌, ◌%◌, min, max}
pub use mathlib.Core.Path.{◌≡◌, ◌∙◌, ap, refl, sym, subst, ap₂, subst⁻¹}
pub use mathlib.Core.Logic.{⊎_elim, inl, inr, ◌⊎◌, ◌↔◌}
pub use mathlib.Core.Bool.{true, Bool, false, ◌&&◌, not, ◌||◌, beq as Bool·beq, and-false, and-true, or-false, true≢false, cond, not-not as Bool·not-not, or_assoc}
pub use mathlib.Core.Bool.{and_assoc, and_comm, or_comm}
pub use mathlib.Core.List.Memᴰ.{cases_cons as List·Memᴰ·cases-cons}
pub use mathlib.Core.List.Memᴰ.{head as List·Memᴰ·head}
pub use mathlib.Core.List.Memᴰ.{not-nil as List·Memᴰ·not-nil}
pub use mathlib.Core.List.{List, [], ◌∷◌, ◌++◌, map, append_assoc, append-nil, Memᴰ as List-as-Memᴰ}
pub use mathlib.Core.List.Memᴰ.{tail as List·Memᴰ·tail}
pub use lib.ListN.{length, get_or, drop, take, length-append, set, length-set, replicate, length-drop, length-map, length-replicate, drop_of_length-le}
pub use lib.ListN.{get_or-replicate, take-append-drop, get_or-append as List·getD-append}
pub use lib.Seq.{sets, length-take-le, get_or-set_same, drop-drop, get_or-set_other, drop-cons, take_all, get_or-drop, length-sets, take_at, sets-eq}
pub use lib.Seq.{ext_get_or, drop_at, set_at, drop-set-lt}
pub use lib.Dec.{leb, T, eqb, leb→le, ltb, ltb→lt, eqb→eq, le→leb, lt→ltb, T_not, eqb_refl}
pub use native.Mathlib.Nat.{not-suc-le-zero, le_of_suc-le-suc, zero-add, add-zero, div-eq_of_lt, mod-lt, suc-mul, pow-suc, le_trans, le_refl}
pub use native.Mathlib.Nat.{mul-le-mul_right, suc-add, lt_of_lt_of_le, mod-eq_of_lt, min-eq_left, min-eq_right}
pub use native.Mathlib.Numerals.{add-one, sub-one}
pub use native.Mathlib.Omega.{arith}
pub use borrow.Author.Rules.{rules}
pub use borrow.Author.Tests.{le-leb, lt-leb, ne_eqb, eq-eqb, not-true, not-false, lt-ltb, le-ltb, leb-true, ltb-true, leb-false, eqb-false}
