mod Destroyed
mod Ended
mod Finished
mod Handing
mod Offered
