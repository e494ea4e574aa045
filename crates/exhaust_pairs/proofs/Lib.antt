-- A vector as a number, the list of all pairs, how they are refused and what they show; then the words of their vectors.
pub mod PairVectorLaws
pub mod PairListLaws
pub mod OnTheWayLaws
pub mod ExhaustHolds
pub mod HeldPairLaws
pub mod ExamplesHold
