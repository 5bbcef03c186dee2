pub mod HoleLemmas
