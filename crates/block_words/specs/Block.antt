-- A block of up to 64 tests of one class on a netlist: test t in bit t of each word.
use Rattle.std.specs.Prelude.{◌≡◌, Bool, false, ◌&&◌, List, ℕ, ◌≤◌, ◌<◌, get_or}
use Rattle.model.specs.Base.{any_of, bit, numbers_from}
use Rattle.model.specs.Netlist.{Netlist, counts, pin_net}
use Rattle.model.specs.Path.{Edge}
use Rattle.model.specs.Detect.{Class, Test, Evaluation, no_evaluation, evaluate}
use Rattle.detection.specs.Cases.{Case, case_of, in_set}
use Rattle.block_words.specs.Words.{WordIs}

-- A net is live when its set is not empty
unfoldable pub live_net : Case → ℕ → Bool
live_net K net = any_of (in_set K net) (numbers_from 1 (get_or (counts K.netlist) net 0))

-- A pin is active when it is open and its net is live
unfoldable pub active_pin : Case → ℕ → ℕ → Bool
active_pin K net p = K.is_open net p && live_net K (pin_net K.netlist net p)

-- the first n tests are of the class
pub record BlockOf (tests : ℕ → Test) (c : Class) (n : ℕ) : Type 0 where
  pub few : n ≤ 64
  pub in_class : (t : ℕ) → t < n → (tests t).class ≡ c

-- the words of the inputs: their values in V1 and in V2
pub record InputBits (tests : ℕ → Test) (n inputs : ℕ) (firsts lasts : List ℕ) : Type 0 where
  pub first : (j t : ℕ) → j < inputs → t < n → bit (get_or firsts j 0) t ≡ get_or (tests t).v1 j false
  pub last : (j t : ℕ) → j < inputs → t < n → bit (get_or lasts j 0) t ≡ get_or (tests t).v2 j false

-- what evaluating a net under a test yields
abbrev pub evaluated : Netlist → Test → ℕ → Evaluation
evaluated N t net = get_or (evaluate N t.v1 t.v2) net no_evaluation

-- one fact of the nets below `top` that evaluating them yields: the value under V1 or V2, or whether they are steady
pub record FactWords (fact : Evaluation → Bool) (N : Netlist) (tests : ℕ → Test) (n top : ℕ) (array : List ℕ) : Type 0 where
  pub words : (net : ℕ) → net < top → WordIs (get_or array net 0) (λ t. fact (evaluated N (tests t) net)) n

-- all three
pub record StateWords (N : Netlist) (tests : ℕ → Test) (n top : ℕ) (firsts lasts steadies : List ℕ) : Type 0 where
  pub first : FactWords (λ e. e.under_v1) N tests n top firsts
  pub last : FactWords (λ e. e.under_v2) N tests n top lasts
  pub steady : FactWords (λ e. e.steady) N tests n top steadies

-- the live words of the nets below `top`, for an edge
pub record LiveWords (N : Netlist) (tests : ℕ → Test) (e : Edge) (n top : ℕ) (array : List ℕ) : Type 0 where
  pub words : (net : ℕ) → net < top → WordIs (get_or array net 0) (λ t. live_net (case_of N (tests t) e) net) n
