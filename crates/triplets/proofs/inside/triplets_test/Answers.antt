-- `triplets_test` meets its contract: the tests stand in the table's order, so the first that refuses decides.
-- Assumes nothing.
use Rattle.std.specs.Prelude.{Ok}
use mathlib.Core.Path.{◌≡◌, sym, ◌∙◌}
use lib.ListN.{length}
use Rattle.sparse.specs.Refusals.{◌else◌, lowest}
use Rattle.sparse.specs.Tests.{modulus_test, size_test, values_test}
use Rattle.triplets.specs.Triplets.{triplets, parts_test, places_test, triplets_test}
use Rattle.sparse.specs.declared.inside.Clause.TheVariants.{Residue}
use Rattle.sparse.proofs.Firsts.{else_none, handed}
use Rattle.triplets.proofs.Passed.{parts_of}
use Rattle.triplets.proofs.inside.triplets_test.Goals as goal
use Rattle.triplets.proofs.inside.triplets_test.Goals.{In_ok-modulus_test, In_ok-parts_test, In_ok-places_test, In_ok-values_test, In_ok-size_test}

-- each test that is passed was good
modulus_good : (c : In_ok-modulus_test) → let a = c.args in modulus_test a.p ≡ Ok tt
modulus_good c = sym c.modulus_test.ensures ∙ c.in_ok-modulus_test.was

size_good : (c : In_ok-size_test) → let a = c.args in size_test 65536 a.nrows a.ncols (length a.vals.now) ≡ Ok tt
size_good c = sym c.size_test.ensures ∙ c.in_ok-size_test.was

parts_good : (c : In_ok-parts_test) → let a = c.args in parts_test a.rows.now a.cols.now a.vals.now ≡ Ok tt
parts_good c = sym c.parts_test.ensures ∙ c.in_ok-parts_test.was

values_good : (c : In_ok-values_test) → let a = c.args in values_test Residue a.p a.vals.now ≡ Ok tt
values_good c = sym c.values_test.ensures ∙ c.in_ok-values_test.was

places_good : (c : In_ok-places_test) → let a = c.args in places_test a.nrows a.ncols (triplets a.rows.now a.cols.now a.vals.now) ≡ Ok tt
places_good c = sym c.places_test.ensures ∙ c.in_ok-places_test.was

pub returns-in_err-modulus_test : goal.returns-in_err-modulus_test
unfolding triplets_test lowest ◌else◌
returns-in_err-modulus_test c = rw (handed c.from_residual.ensures.1) (rw (← c.modulus_test.ensures, c.in_err-modulus_test.was))

pub returns-in_err-size_test : goal.returns-in_err-size_test
unfolding triplets_test lowest ◌else◌
returns-in_err-size_test c = rw (handed c.from_residual-in_err-size_test.ensures.1) (rw (modulus_good (goal.at.returns-in_err-size_test c).In_ok-modulus_test, ← c.size_test.ensures, c.in_err-size_test.was))

pub returns-in_err-parts_test : goal.returns-in_err-parts_test
unfolding triplets_test lowest ◌else◌
returns-in_err-parts_test c = rw (handed c.from_residual-in_err-parts_test.ensures.1) (rw (modulus_good (goal.at.returns-in_err-parts_test c).In_ok-modulus_test, size_good (goal.at.returns-in_err-parts_test c).In_ok-size_test, ← c.parts_test.ensures, c.in_err-parts_test.was))

pub returns-in_err-values_test : goal.returns-in_err-values_test
unfolding triplets_test lowest ◌else◌
returns-in_err-values_test c = rw (handed c.from_residual-in_err-values_test.ensures.1) (rw (modulus_good (goal.at.returns-in_err-values_test c).In_ok-modulus_test, size_good (goal.at.returns-in_err-values_test c).In_ok-size_test, parts_good (goal.at.returns-in_err-values_test c).In_ok-parts_test, ← c.values_test.ensures, c.in_err-values_test.was))

pub places_test-requires : goal.places_test-requires
places_test-requires c = parts_of _ _ _ (parts_good (goal.at.places_test-requires c).In_ok-parts_test)

pub returns-in_err-places_test : goal.returns-in_err-places_test
unfolding triplets_test lowest ◌else◌
returns-in_err-places_test c = rw (handed c.from_residual-in_err-places_test.ensures.1) (rw (modulus_good (goal.at.returns-in_err-places_test c).In_ok-modulus_test, size_good (goal.at.returns-in_err-places_test c).In_ok-size_test, parts_good (goal.at.returns-in_err-places_test c).In_ok-parts_test, values_good (goal.at.returns-in_err-places_test c).In_ok-values_test, ← c.places_test.ensures, c.in_err-places_test.was))

pub order_test-requires : goal.order_test-requires
order_test-requires c = parts_of _ _ _ (parts_good (goal.at.order_test-requires c).In_ok-parts_test)

pub returns : goal.returns
unfolding triplets_test lowest ◌else◌
returns c = rw (modulus_good (goal.at.returns c).In_ok-modulus_test, size_good (goal.at.returns c).In_ok-size_test, parts_good (goal.at.returns c).In_ok-parts_test, values_good (goal.at.returns c).In_ok-values_test, places_good (goal.at.returns c).In_ok-places_test, ← c.order_test.ensures) (sym (else_none _))
