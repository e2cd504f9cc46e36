pub mod Asked
pub mod One
pub mod OneLeads
pub mod All
pub mod AllLeads
pub mod Program
