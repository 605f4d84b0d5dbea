pub mod OnTotals
